use Rattle.std.proofs.Common.{refl, sym, ◌∙◌}
use Rattle.std.proofs.lemmas.Result.{IfOk-weaker}
use Rattle.rule_postfix.proofs.StepsLemmas.{change_spelled}
use Rattle.rule_postfix.proofs.open_init.put_long_row.Goals as goal

pub returns-then-lose_column : goal.returns-then-lose_column
returns-then-lose_column c =
    IfOk-weaker c.cut.result _ _ (λ _ more front o so. more front c.args.change.now.before.now o (sym c.lose_column.ensures ∙ c.if-lose_column.true) so) c.cut.ensures

pub returns : goal.returns
returns c =
    IfOk-weaker c.add_change_record.result _ _ (λ _ more front o so.
    change_spelled c.args.change.now.fde.now front c.args.text.now.items c.args.change.now.base c.args.change.now.address c.args.change.now.before.now c.args.change.now.after.now c.args.open.now _ o (sym c.lose_column.ensures ∙ c.if-lose_column.false) refl more so)
    c.add_change_record.ensures
