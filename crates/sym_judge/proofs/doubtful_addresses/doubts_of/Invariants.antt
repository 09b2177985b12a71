use Rattle.std.proofs.Common.{◌-◌, ◌^◌}
use Rattle.sym_judge.proofs.DoubtLemmas.{AreDoubtsTo}
use Rattle.sym_judge.proofs.doubtful_addresses.doubts_of.Given as goal

abbrev pub invariant-runs : goal.invariant-runs
invariant-runs l = AreDoubtsTo l.half l.both.own l.both.other l.address l.known l.doubts

abbrev pub decreases-runs : goal.decreases-runs
decreases-runs l = 2 ^ 64 - l.address
