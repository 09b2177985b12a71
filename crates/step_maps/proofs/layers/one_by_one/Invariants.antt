use Rattle.std.proofs.Common.{◌-◌, ◌^◌}
use Rattle.step_maps.proofs.LayingLemmas.{Lays}
use Rattle.step_maps.proofs.layers.one_by_one.Given as goal

abbrev pub invariant-stops : goal.invariant-stops
invariant-stops l = Lays l.items l.steps l.at

abbrev pub decreases-stops : goal.decreases-stops
decreases-stops l = 2 ^ 64 - l.at
