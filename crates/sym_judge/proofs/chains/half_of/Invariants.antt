use Rattle.std.proofs.Common.{◌-◌, ◌<◌}
use Rattle.sym_judge.proofs.chains.half_of.Given as goal

abbrev pub invariant-doubled : goal.invariant-doubled
invariant-doubled l = record { some : 0 < l.half; less : l.half < l.count }

abbrev pub decreases-doubled : goal.decreases-doubled
decreases-doubled l = l.count - l.half
