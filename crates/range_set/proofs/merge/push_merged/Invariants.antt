use Rattle.std.proofs.Common.{◌+◌, length}
use Rattle.range_set.proofs.JoinLemmas.{Joins}
use Rattle.range_set.proofs.merge.push_merged.Given as goal

abbrev pub invariant-spans : goal.invariant-spans
invariant-spans l = Joins l.left l.right l.built l.xs l.ys

abbrev pub decreases-spans : goal.decreases-spans
decreases-spans l = length l.xs + length l.ys
