use Rattle.std.proofs.Common.{◌++◌, refl, ap, subst, ◌∙◌}
use Rattle.std.proofs.lemmas.Result.{IfOk-weaker}
use Rattle.rule_postfix.proofs.StepsLemmas.{change_spelled}
use Rattle.rule_postfix.specs.declared.rules.Unwritten.{Unwritten}
use Rattle.rule_postfix.specs.internal.Backward.{IfLost}
use Rattle.rule_postfix.proofs.open_init.put_row.Goals as goal

pub returns-in-Ok : goal.returns-in-Ok
returns-in-Ok c =
    IfOk-weaker c.add_to.result _ _ (λ _ more front o so.
    change_spelled c.args.change.now.fde.now front c.args.text.now.items c.args.change.now.base c.args.change.now.address c.args.change.now.before.now c.args.change.now.after.now c.args.open.now _ o c.in-Ok.ensures.kept refl
    (more ∙ ap (λ l. c.args.open.now.body.items ++ l) c.in-Ok.ensures.written) so)
    c.add_to.ensures

pub returns-in-Err-Unspecified : goal.returns-in-Err-Unspecified
returns-in-Err-Unspecified c =
    let P : Unwritten → Type 0 = IfLost c.args.change.now.before.now c.args.change.now.after.now in
    IfOk-weaker c.cut.result _ _ (λ _ more front o so. more front c.args.change.now.before.now o (subst P c.in-Err-Unspecified.field-0-is c.in-Err-Unspecified.ensures.kept) (record { based = so.based; start = so.start; body = so.body; lines = so.lines })) c.cut.ensures
