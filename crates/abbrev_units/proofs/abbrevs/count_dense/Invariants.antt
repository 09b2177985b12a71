use Rattle.std.proofs.Common.{length, ◌-◌}
use Rattle.abbrev_units.specs.Places.{IsDense}
use Rattle.abbrev_units.proofs.abbrevs.count_dense.Given as goal

abbrev pub invariant-dense : goal.invariant-dense
invariant-dense l = IsDense l.count l.list

abbrev pub decreases-dense : goal.decreases-dense
decreases-dense l = length l.list - l.count
