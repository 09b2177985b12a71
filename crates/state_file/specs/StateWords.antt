-- The words by which the faults of state files are printed.
use Rattle.std.specs.Prelude.{ℕ, List, codes}
use Rattle.state_file.specs.declared.fault.StateKind.{StateKind}
use Rattle.state_file.specs.declared.fault.StateKind.TheVariants as fault

-- the word for each kind of fault
abbrev pub state_word : StateKind → List ℕ
state_word fault.Keyword = codes "keyword"
state_word fault.Fields = codes "fields"
state_word fault.Register = codes "register"
state_word fault.Hex = codes "hex"
state_word fault.Wraps = codes "wraps"
