use Rattle.std.proofs.Common.{arith}
use Rattle.dumpsyms_cmd.proofs.JudgeLemmas.{sym_read}
use Rattle.dumpsyms_cmd.proofs.judge_input.answer_sym.Goals as goal

pub returns-in-Ok-read_file-clause-asked : goal.returns-in-Ok-read_file-clause-asked
returns-in-Ok-read_file-clause-asked g c = (1, omega arith, c.in-Ok-read_file.ensures.asked)

pub returns-in-Ok-read_file-clause-answered : goal.returns-in-Ok-read_file-clause-answered
returns-in-Ok-read_file-clause-answered g c = sym_read _ _ _ _ _ _ _ _ _ _ c.in-Ok-read_file.ensures.read c.answer_judged.ensures c.judge_files.ensures
