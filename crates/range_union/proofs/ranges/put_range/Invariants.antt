use Rattle.std.proofs.Common.{length}
use Rattle.range_union.proofs.RangeLemmas.{Grows}
use Rattle.range_union.proofs.ranges.put_range.Given as goal

abbrev pub invariant-met : goal.invariant-met
invariant-met l = Grows l.first l.last l.ends.entries l.start l.end l.fn.ends.entries

abbrev pub decreases-met : goal.decreases-met
decreases-met l = length l.ends.entries
