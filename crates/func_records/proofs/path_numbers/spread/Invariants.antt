use Rattle.std.proofs.Common.{List, ℕ}
use Rattle.std.specs.List.{All}
use Rattle.func_records.specs.internal.Spelling.{IsNumbered}
use Rattle.func_records.proofs.path_numbers.spread.Given as goal

abbrev pub invariant-list : goal.invariant-list
invariant-list l = (rows : List (List ℕ)) → All (IsNumbered rows) l.list → All (IsNumbered rows) l.slots.items
