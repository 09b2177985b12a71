use Rattle.worked.proofs.RowStepLemmas.{walks_by_rows}
use Rattle.worked.proofs.laws.walks_go_by_the_rows.Goals as goal

pub returns : goal.returns
returns c = walks_by_rows
