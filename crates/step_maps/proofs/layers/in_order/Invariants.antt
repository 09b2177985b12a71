use Rattle.std.proofs.Common.{length}
use Rattle.step_maps.proofs.LayingLemmas.{InOrder}
use Rattle.step_maps.proofs.layers.in_order.Given as goal

abbrev pub invariant-items : goal.invariant-items
invariant-items l = InOrder l.items l.steps l.last l.rest

abbrev pub decreases-items : goal.decreases-items
decreases-items l = length l.rest
