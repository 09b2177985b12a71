use Rattle.step_maps.proofs.JoiningLemmas.{covers_are}
use Rattle.step_maps.proofs.cover_list.covers.Goals as goal

pub returns : goal.returns
returns c = rw c.of.ensures (covers_are _ c.in_ok-steps.steps _ c.in_ok-steps.ensures c.stops.ensures.stepping (rw (c.stops.ensures.same, c.values.ensures.same) at c.in_ok-covers.ensures))
