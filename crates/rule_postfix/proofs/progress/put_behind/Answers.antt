use Rattle.std.proofs.Common.{ap, sym, ◌∙◌}
use Rattle.std.proofs.lemmas.Result.{IfOk-weaker}
use Rattle.range_set.specs.Enclosing.{encloses}
use Rattle.frame_entries.specs.FdeFields.{FdeFields}
use Rattle.range_union.specs.Ranges.{any_overlap}
use Rattle.rule_postfix.proofs.DecidedLemmas.{left_too, written_too, refused_too}
use Rattle.rule_postfix.proofs.ReasonLemmas.{no_code, overlaps, no_reason}
use Rattle.rule_postfix.proofs.progress.put_behind.Goals as goal

pub returns-in_default : goal.returns-in_default
returns-in_default c =
    IfOk-weaker c.leave_out.result _ _ (λ _ more. left_too c.args.setting.base c.args.setting.code.now c.args.progress.now c.leave_out.new.progress c.args.entry.now c.args.fde.now c.in_ok-why.why c.requires.good (c.in_ok-why.ensures c.args.setting.code.now c.args.progress.now.taken) more)
    c.leave_out.ensures

pub returns-then-not-encloses : goal.returns-then-not-encloses
returns-then-not-encloses c =
    IfOk-weaker c.leave_out-then-not-encloses.result _ _ (λ _ more. left_too c.args.setting.base c.args.setting.code.now c.args.progress.now c.leave_out-then-not-encloses.new.progress c.args.entry.now c.args.fde.now c.in_ok-why-2.why c.requires.good
    (no_code c.args.setting.code.now c.args.progress.now.taken c.args.fde.now c.in-Some.end c.in_ok-why-2.why c.in-Some.ensures
    (ap (λ (e : FdeFields). encloses c.args.setting.code.now e.start c.in-Some.end) (sym c.fde.view_is) ∙ sym c.encloses.ensures ∙ c.if-not-encloses.true) c.in_ok-why-2.ensures) more)
    c.leave_out-then-not-encloses.ensures

pub returns-then-meets : goal.returns-then-meets
returns-then-meets c =
    IfOk-weaker c.leave_out-then-meets.result _ _ (λ _ more. left_too c.args.setting.base c.args.setting.code.now c.args.progress.now c.leave_out-then-meets.new.progress c.args.entry.now c.args.fde.now c.in_ok-why-3.why c.requires.good
    (overlaps c.args.setting.code.now c.args.progress.now.taken c.args.fde.now c.in-Some.end c.in_ok-why-3.why c.in-Some.ensures
    (ap (λ (e : FdeFields). encloses c.args.setting.code.now e.start c.in-Some.end) (sym c.fde.view_is) ∙ sym c.encloses.ensures ∙ c.if-not-encloses.false)
    (ap (λ (e : FdeFields). any_overlap (record { start = e.start; end = c.in-Some.end }) c.args.progress.now.taken) (sym c.fde.view_is) ∙ sym c.meets.ensures ∙ c.if-meets.true) c.in_ok-why-3.ensures) more)
    c.leave_out-then-meets.ensures

pub returns-in-Ok : goal.returns-in-Ok
returns-in-Ok c =
    written_too c.args.setting.base c.args.setting.code.now c.args.progress.now c.write.new.progress c.args.entry.now c.args.fde.now c.requires.good
    (no_reason c.args.setting.code.now c.args.progress.now.taken c.args.fde.now c.in-Some.end c.in-Some.ensures c.in-Ok.ensures.exact
    (ap (λ (e : FdeFields). encloses c.args.setting.code.now e.start c.in-Some.end) (sym c.fde.view_is) ∙ sym c.encloses.ensures ∙ c.if-not-encloses.false)
    (ap (λ (e : FdeFields). any_overlap (record { start = e.start; end = c.in-Some.end }) c.args.progress.now.taken) (sym c.fde.view_is) ∙ sym c.meets.ensures ∙ c.if-meets.false))
    c.in-Ok.ensures.shown

pub returns-in-Err : goal.returns-in-Err
returns-in-Err c =
    IfOk-weaker c.leave_out_where_refused.result _ _ (λ _ more. refused_too _ _ c.args.setting.base c.args.setting.code.now c.args.progress.now c.write.new.progress c.leave_out_where_refused.new.progress c.args.entry.now c.args.fde.now c.in-Some.end c.in-Err.stop _ _ c.requires.good c.in-Some.ensures c.in-Err.ensures.shown c.in-Err.ensures.exact more)
    c.leave_out_where_refused.ensures
