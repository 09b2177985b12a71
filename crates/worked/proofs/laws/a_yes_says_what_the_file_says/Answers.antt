use Rattle.worked.proofs.JudgedLemmas.{yes_says}
use Rattle.worked.proofs.laws.a_yes_says_what_the_file_says.Goals as goal

pub returns : goal.returns
returns c = yes_says
