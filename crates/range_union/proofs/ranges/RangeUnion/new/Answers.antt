use Rattle.std.proofs.Common.{ap}
use Rattle.range_union.specs.internal.Entries.{ranges_by}
use Rattle.range_union.proofs.ranges.RangeUnion.new.Goals as goal

pub returns : goal.returns
unfolding ranges_by
returns c = ap ranges_by c.new.ensures.empty
