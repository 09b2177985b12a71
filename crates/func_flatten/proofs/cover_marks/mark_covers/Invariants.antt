use Rattle.std.proofs.Common.{◌≡◌, ◌++◌, map, take, drop}
use Rattle.func_flatten.specs.internal.Classes.{marked}
use Rattle.func_flatten.proofs.cover_marks.mark_covers.Given as goal

abbrev pub invariant-loop-at : goal.invariant-loop-at
invariant-loop-at l = l.covers.items ≡ map (marked l.items) (take l.at l.fn.covers.items) ++ drop l.at l.fn.covers.items
