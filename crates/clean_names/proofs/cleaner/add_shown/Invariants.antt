use Rattle.std.proofs.Common.{◌≡◌, ◌++◌, map, take}
use Rattle.clean_names.specs.Cleaning.{shown_byte}
use Rattle.clean_names.proofs.cleaner.add_shown.Given as goal

abbrev pub invariant-loop-b : goal.invariant-loop-b
invariant-loop-b l = l.text.items ≡ l.fn.text.items ++ map shown_byte (take l.b-index l.bytes)
