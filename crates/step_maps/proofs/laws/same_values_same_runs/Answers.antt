use Rattle.step_maps.proofs.OneRuns.{one_runs}
use Rattle.step_maps.proofs.laws.same_values_same_runs.Goals as goal

pub returns : goal.returns
returns g c = λ f xs ys p q. one_runs f xs ys p q
