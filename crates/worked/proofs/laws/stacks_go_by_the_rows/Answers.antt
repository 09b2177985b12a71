use Rattle.worked.proofs.RowStepLemmas.{steps_by_rows}
use Rattle.worked.proofs.laws.stacks_go_by_the_rows.Goals as goal

pub returns : goal.returns
returns c = steps_by_rows
