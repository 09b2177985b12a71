use Rattle.dumpsyms_cmd.proofs.RunLemmas.{promises}
use Rattle.dumpsyms_cmd.proofs.program.run.Goals as goal

pub returns : goal.returns
returns g c = promises _ _ c.answer_words-answer.ensures.answered c.answer_words-answer.ensures.asked c.write_answer.ensures.written c.write_answer.ensures.quiet
