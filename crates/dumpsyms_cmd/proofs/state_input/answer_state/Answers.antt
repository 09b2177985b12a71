use Rattle.std.proofs.Common.{refl}
use Rattle.dumpsyms_cmd.proofs.AnswerLemmas.{state_stopped}
use Rattle.dumpsyms_cmd.proofs.state_input.answer_state.Goals as goal

pub returns-in-Err-clause-answered : goal.returns-in-Err-clause-answered
returns-in-Err-clause-answered g c = state_stopped _ _ _ _ _ _ _ _ _ _ _ c.in-Err.ensures.read refl c.answer_stop.ensures
