use Rattle.std.proofs.Common.{◌-◌, ◌^◌}
use Rattle.sym_judge.proofs.function_pairs.meetings.Given as goal

abbrev pub decreases-runs : goal.decreases-runs
decreases-runs l = 2 ^ 64 - l.address
