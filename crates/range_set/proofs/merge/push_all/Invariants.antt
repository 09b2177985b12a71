use Rattle.std.proofs.Common.{length}
use Rattle.range_set.proofs.JoinLemmas.{Pushes}
use Rattle.range_set.proofs.merge.push_all.Given as goal

abbrev pub invariant-spans : goal.invariant-spans
invariant-spans l = Pushes l.fn.built l.spans l.built l.rest

abbrev pub decreases-spans : goal.decreases-spans
decreases-spans l = length l.rest
