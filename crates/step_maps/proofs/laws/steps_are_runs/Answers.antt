use Rattle.step_maps.proofs.PieceLemmas.{pieces_are_runs}
use Rattle.step_maps.proofs.laws.steps_are_runs.Goals as goal

pub returns : goal.returns
returns g c = λ end steps is differ high. pieces_are_runs end steps is differ high
