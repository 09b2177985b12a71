use Rattle.std.proofs.Common.{length}
use Rattle.range_set.proofs.CutLemmas.{Minus}
use Rattle.range_set.proofs.difference.minus_spans.Given as goal

abbrev pub invariant-spans : goal.invariant-spans
invariant-spans l = Minus l.left l.right l.built l.xs l.cuts

abbrev pub decreases-spans : goal.decreases-spans
decreases-spans l = length l.xs
