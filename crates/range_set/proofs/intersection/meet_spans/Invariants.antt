use Rattle.std.proofs.Common.{◌+◌, length}
use Rattle.range_set.proofs.MeetLemmas.{Meets}
use Rattle.range_set.proofs.intersection.meet_spans.Given as goal

abbrev pub invariant-spans : goal.invariant-spans
invariant-spans l = Meets l.left l.right l.built l.xs l.ys

abbrev pub decreases-spans : goal.decreases-spans
decreases-spans l = length l.xs + length l.ys
