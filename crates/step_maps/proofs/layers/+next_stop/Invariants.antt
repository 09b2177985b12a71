use Rattle.std.proofs.Common.{length}
use Rattle.step_maps.proofs.layers.+next_stop.Given as goal

abbrev pub decreases-next_stop : goal.decreases-next_stop
decreases-next_stop l = length l.items.now
