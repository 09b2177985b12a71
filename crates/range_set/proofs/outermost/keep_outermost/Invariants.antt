use Rattle.std.proofs.Common.{length}
use Rattle.range_set.proofs.EnclosingLemmas.{Keeps}
use Rattle.range_set.proofs.outermost.keep_outermost.Given as goal

abbrev pub invariant-spans : goal.invariant-spans
invariant-spans l = Keeps l.spans l.kept.items l.rest l.reach

abbrev pub decreases-spans : goal.decreases-spans
decreases-spans l = length l.rest
