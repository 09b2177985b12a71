use Rattle.std.proofs.Common.{refl}
use Rattle.dumpsyms_cmd.proofs.AnswerLemmas.{sym_ended}
use Rattle.dumpsyms_cmd.proofs.symbol_input.answer_symbols.Goals as goal

pub returns-in-Ok-clause-answered : goal.returns-in-Ok-clause-answered
returns-in-Ok-clause-answered g c = c.answer_file.ensures _ _ _ _ _ c.in-Ok.ensures.read

pub returns-in-Err-clause-answered : goal.returns-in-Err-clause-answered
returns-in-Err-clause-answered g c = sym_ended _ _ _ _ _ _ _ _ _ c.in-Err.ensures.read refl c.answer_end.ensures
