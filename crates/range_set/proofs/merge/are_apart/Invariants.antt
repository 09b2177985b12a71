use Rattle.std.proofs.Common.{length}
use Rattle.range_set.proofs.JoinLemmas.{Apart}
use Rattle.range_set.proofs.merge.are_apart.Given as goal

abbrev pub invariant-spans : goal.invariant-spans
invariant-spans l = Apart l.spans l.end l.rest

abbrev pub decreases-spans : goal.decreases-spans
decreases-spans l = length l.rest
