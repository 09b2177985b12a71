use Rattle.std.proofs.Common.{◌≡◌, length}
use Rattle.sym_judge.proofs.copies.are_copies.Given as goal

abbrev pub invariant-records : goal.invariant-records
invariant-records l = l.front ≡ l.back → l.a ≡ l.b

abbrev pub decreases-records : goal.decreases-records
decreases-records l = length l.front
