use Rattle.dumpsyms_cmd.proofs.AnswerLemmas.{sym_read}
use Rattle.dumpsyms_cmd.proofs.symbol_input.answer_file.Goals as goal

pub returns : goal.returns
returns c = λ files name asked before after holds. sym_read _ _ _ _ _ _ _ _ _ c.as_slice-lines.ensures.valid holds c.answer_judged.ensures c.judge_symbols.ensures
