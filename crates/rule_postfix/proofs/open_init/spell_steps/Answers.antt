use Rattle.std.proofs.Common.{◌||◌, not, ap, sym, ◌∙◌}
use Rattle.frame_rows.specs.Standing.{Standing}
use Rattle.frame_rows.specs.Steps.{has_cfa}
use Rattle.rule_postfix.proofs.StepsLemmas.{is_more, is_last, by_row, pass_begins, pass_on, pass_ends}
use Rattle.rule_postfix.proofs.open_init.spell_steps.Goals as goal

pub rows-init : goal.rows-init
rows-init c =
    pass_begins c.args.fde.now c.args.base c.args.end c.args.text.now.items c.begin.new.open c.row.result.now c.lack_rule-lacking.result c.args.stepper.now c.requires.fresh c.requires.going c.requires.ends c.requires.above c.requires.low c.row.ensures
    c.lack_rule-lacking.ensures (c.in_ok-begin.ensures.start ∙ c.address.ensures) c.in_ok-begin.ensures.body

pub returns-in-Ok-end_steps-clause-text : goal.returns-in-Ok-end_steps-clause-text
returns-in-Ok-end_steps-clause-text c =
    let last = is_last c.in-Ok.next c.rows.stepper c.next.new.self c.in_default.is (c.in-Ok.ensures.steps c.rows.invariant.fresh c.rows.invariant.going) in
    pass_ends c.args.fde.now c.args.base c.args.end c.args.text.now.items c.rows.text.items c.end_steps.new.text.items c.rows.open c.rows.before c.rows.lacking c.rows.stepper c.args.stepper.now c.rows.invariant
    (last.0 (ap (λ (s : Standing). s.fault) (sym last.1) ∙ c.in-Ok-end_steps.ensures.fault)) c.in-Ok-end_steps.ensures.text

pub rows-preserved : goal.rows-preserved
rows-preserved c =
    let more = is_more c.in-Ok.next c.in-Some.columns c.rows.stepper c.next.new.self c.in-Some.is (c.in-Ok.ensures.steps c.rows.invariant.fresh c.rows.invariant.going) in
    pass_on c.args.fde.now c.args.base c.args.end c.args.text.now.items c.rows.text.items c.put_row.new.text.items c.rows.open c.put_row.new.open c.rows.before c.follow.new.self c.rows.lacking c.lack_rule-lacking-in-rows.result c.rows.stepper c.next.new.self c.args.stepper.now c.rows.invariant more.0
    (by_row c.args.fde.now c.args.base c.address-address.result c.rows.before c.row-row.result.now _ _ _ _ c.next.new.self c.address-address.ensures c.row-row.ensures c.in_ok-put_row.ensures)
    (c.follow.ensures ∙ c.row-row.ensures) (c.lack_rule-lacking-in-rows.ensures ∙ ap (λ row. c.rows.lacking || not (has_cfa row)) c.row-row.ensures)
