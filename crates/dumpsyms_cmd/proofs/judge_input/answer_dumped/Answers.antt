use Rattle.std.proofs.Common.{arith, refl}
use Rattle.dumpsyms_cmd.proofs.JudgeLemmas.{no_text_judged, text_judged, no_text_asked}
use Rattle.dumpsyms_cmd.proofs.judge_input.answer_dumped.Goals as goal

pub returns-in_default : goal.returns-in_default
returns-in_default g c = record {
  asked = λ source kept. no_text_asked c.args.dumped _ _ _ c.in_default.not-Text refl;
  files = refl;
  faults = omega arith;
  steady = refl;
  answered = λ source full kept. no_text_judged source _ _ c.args.dumped c.in_default.not-Text kept;
}

pub returns-in-Ok-clause-answered : goal.returns-in-Ok-clause-answered
returns-in-Ok-clause-answered g c = λ source full kept. text_judged _ source _ _ _ _ c.args.dumped c.in-Text.text c.in-Ok.own _ _ full c.in-Text.is c.in-Ok.ensures kept c.answer_sym.ensures.answered
