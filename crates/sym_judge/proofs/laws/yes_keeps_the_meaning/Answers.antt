use Rattle.sym_judge.proofs.LawLemmas.{yes_names}
use Rattle.sym_judge.proofs.laws.yes_keeps_the_meaning.Goals as goal

pub returns-clause-names : goal.returns-clause-names
returns-clause-names c = yes_names
