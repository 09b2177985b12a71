use Rattle.std.proofs.Common.{length}
use Rattle.step_maps.proofs.layers.+halved.Given as goal

abbrev pub decreases-halved : goal.decreases-halved
decreases-halved l = length l.items.now
