use Rattle.std.proofs.Common.{length}
use Rattle.step_maps.proofs.layers.+laid_at.Given as goal

abbrev pub decreases-laid_at : goal.decreases-laid_at
decreases-laid_at l = length l.items.now
