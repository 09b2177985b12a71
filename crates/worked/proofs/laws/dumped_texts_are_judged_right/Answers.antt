use Rattle.worked.proofs.DumpedYes.{dumped_texts_get_a_yes}
use Rattle.worked.proofs.laws.dumped_texts_are_judged_right.Goals as goal

pub returns : goal.returns
returns c = dumped_texts_get_a_yes
