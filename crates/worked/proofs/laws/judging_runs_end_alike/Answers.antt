use Rattle.worked.proofs.OneRun.{runs_end_alike}
use Rattle.worked.proofs.laws.judging_runs_end_alike.Goals as goal

pub returns : goal.returns
returns c = runs_end_alike
