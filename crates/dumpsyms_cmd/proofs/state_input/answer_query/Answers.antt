use Rattle.std.proofs.Common.{refl}
use Rattle.dumpsyms_cmd.proofs.AnswerLemmas.{asks_both, query_ended}
use Rattle.dumpsyms_cmd.proofs.state_input.answer_query.Goals as goal

pub returns-in-Ok-clause-asked : goal.returns-in-Ok-clause-asked
returns-in-Ok-clause-asked g c = asks_both _ _ _ _ _ _ _ c.in-Ok.ensures.read c.in-Ok.ensures.asked c.answer_state.ensures.asked

pub returns-in-Err-clause-answered : goal.returns-in-Err-clause-answered
returns-in-Err-clause-answered g c = query_ended _ _ _ _ _ _ _ _ _ _ c.in-Err.ensures.read refl c.answer_end.ensures
