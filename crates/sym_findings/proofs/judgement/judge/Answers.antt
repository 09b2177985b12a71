use Rattle.std.proofs.Common.{sym, ap, ◌∙◌}
use Rattle.std.proofs.lemmas.Result.{on_ok_weaker}
use Rattle.sym_records.specs.declared.line.Extent.{Extent}
use Rattle.sym_records.specs.declared.line.SymLine.TheVariants.{Func, Inline, Line, Init}
use Rattle.sym_findings.proofs.JudgedLemmas.{of_record, judged_other}
use Rattle.sym_findings.proofs.judgement.judge.Goals as goal

pub returns-in-File : goal.returns-in-File
returns-in-File c = on_ok_weaker c.judge_file.result (λ told. of_record c.args.known.now c.args.kept.now _ _ _ _ _ _ (c.in-File.is) (λ all before knows keeps. told all before c.in-File.name keeps)) c.judge_file.ensures

pub returns-in-Origin : goal.returns-in-Origin
returns-in-Origin c = on_ok_weaker c.judge_origin.result (λ told. of_record c.args.known.now c.args.kept.now _ _ _ _ _ _ (c.in-Origin.is) (λ all before knows keeps. told all before c.in-Origin.name keeps)) c.judge_origin.ensures

pub returns-in-Func : goal.returns-in-Func
returns-in-Func c = on_ok_weaker c.judge_func.result (λ told. of_record c.args.known.now c.args.kept.now _ _ _ _ _ _ (c.in-Func.is ∙ ap (λ (run : Extent). Func c.in-Func.many run.address run.size c.in-Func.params c.in-Func.name) (sym c.run_of.ensures)) (λ all before knows keeps. told all before c.in-Func.many c.in-Func.params c.in-Func.name keeps)) c.judge_func.ensures

pub returns-in-Inline : goal.returns-in-Inline
returns-in-Inline c = on_ok_weaker c.judge_inline.result (λ told. of_record c.args.known.now c.args.kept.now _ _ _ _ _ _ (c.in-Inline.is ∙ ap (Inline c.in-Inline.level c.in-Inline.call_line c.in-Inline.call_file c.in-Inline.origin) (sym c.as_slice.ensures)) (λ all before knows keeps. told all before c.in-Inline.level c.in-Inline.call_line knows keeps)) c.judge_inline.ensures

pub returns-in-Line : goal.returns-in-Line
returns-in-Line c = on_ok_weaker c.judge_line.result (λ told. of_record c.args.known.now c.args.kept.now _ _ _ _ _ _ (c.in-Line.is ∙ ap (λ (run : Extent). Line run.address run.size c.in-Line.line c.in-Line.file) (sym c.run_of-in-Line.ensures)) (λ all before knows keeps. told all before c.in-Line.line knows keeps)) c.judge_line.ensures

pub returns-in-Init : goal.returns-in-Init
returns-in-Init c = on_ok_weaker c.judge_init.result (λ told. of_record c.args.known.now c.args.kept.now _ _ _ _ _ _ (c.in-Init.is ∙ ap (λ (run : Extent). Init run.address run.size c.in-Init.rules) (sym c.run_of-in-Init.ensures)) (λ all before knows keeps. told all before c.in-Init.rules keeps)) c.judge_init.ensures

pub returns-in-Change : goal.returns-in-Change
returns-in-Change c = on_ok_weaker c.judge_change.result (λ told. of_record c.args.known.now c.args.kept.now _ _ _ _ _ _ (c.in-Change.is) (λ all before knows keeps. told all before c.in-Change.rules keeps)) c.judge_change.ensures

pub returns-in-Module : goal.returns-in-Module
returns-in-Module c = λ all before knows keeps. judged_other all before c.args.notes.now.index c.args.line.now c.args.kept.now c.close.new.kept c.args.notes.now.list.items c.in-Module.is c.close.ensures keeps
