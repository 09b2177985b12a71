use Rattle.step_maps.proofs.MaximalLemmas.{maximal}
use Rattle.step_maps.proofs.laws.runs_are_maximal.Goals as goal

pub returns : goal.returns
returns g c = λ f xs p. maximal f xs p
