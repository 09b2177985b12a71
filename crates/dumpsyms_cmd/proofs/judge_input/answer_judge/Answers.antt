use Rattle.dumpsyms_cmd.specs.Words.{source_view}
use Rattle.dumpsyms_cmd.proofs.JudgeLemmas.{judge_answered}
use Rattle.dumpsyms_cmd.proofs.SourceLemmas.{judge_asked, other_asked, other_answered}
use Rattle.dumpsyms_cmd.proofs.judge_input.answer_judge.Goals as goal

pub returns-in-Judged-clause-asked : goal.returns-in-Judged-clause-asked
returns-in-Judged-clause-asked g c =
    judge_asked c.in-Judged.dumped (source_view c.args.source.now) c.args.sym.now _ _ _ _ _ c.in-Judged.ensures.files c.in-Judged.ensures.asked c.in-Judged.ensures.answered c.answer_dumped.ensures.asked

pub returns-in-Judged-clause-answered : goal.returns-in-Judged-clause-answered
returns-in-Judged-clause-answered g c =
    judge_answered _ (source_view c.args.source.now) c.args.sym.now _ _ c.in-Judged.dumped _ _ _ _ c.in-Judged.ensures.files c.in-Judged.ensures.faults c.answer_dumped.ensures.faults c.in-Judged.ensures.answered c.answer_dumped.ensures.answered

pub returns-in_default : goal.returns-in_default
returns-in_default g c = record {
  asked = other_asked c.answer_source.result (source_view c.args.source.now) c.args.sym.now _ _ _ c.answer_source.ensures.asked;
  files = c.answer_source.ensures.files;
  faults = c.answer_source.ensures.faults;
  steady = c.answer_source.ensures.steady;
  answered = other_answered c.answer_source.result (source_view c.args.source.now) c.args.sym.now _ _ _ _ c.in_default.not-Judged c.answer_source.ensures.answered;
}
