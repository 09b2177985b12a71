use Rattle.step_maps.proofs.LayingLemmas.{steady_front}
use Rattle.step_maps.proofs.layers.+next_stop.Goals as goal

pub returns-clause-steady : goal.returns-clause-steady
returns-clause-steady t c = steady_front _ _ _ _ _ _ _ c.in-Some.ensures.cases.0 c.sooner.ensures c.stop_of.ensures.steady c.next_stop.ensures.steady
