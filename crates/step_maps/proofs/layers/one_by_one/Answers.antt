use Rattle.step_maps.proofs.LayingLemmas.{lays_more, lays_all}
use Rattle.step_maps.proofs.layers.one_by_one.Goals as goal

pub stops-preserved : goal.stops-preserved
stops-preserved c = lays_more _ _ _ _ _ _ c.stops.invariant c.in-Some.ensures.steady c.in-Some.ensures.above c.laid_at-in-Some.ensures c.in_ok-set-2.ensures.at c.in_ok-set-2.ensures.last

pub returns : goal.returns
returns c = lays_all _ _ _ c.stops.invariant c.in_default.ensures.steady
