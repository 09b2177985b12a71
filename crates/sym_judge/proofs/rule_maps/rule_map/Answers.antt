use Rattle.sym_judge.proofs.RuleMapLemmas.{init_told, change_told, changes_stop, changes_end}
use Rattle.sym_judge.proofs.rule_maps.rule_map.Goals as goal

pub lines-init : goal.lines-init
lines-init c =
    init_told c.args.lines.now c.args.target.now c.args.init c.index-lines-init.result c.rules_of.result.now c.new-items.result.items _ c.new-items.ensures.items c.requires.within c.index-lines-init.is c.rules_of.ensures c.in_ok-push_rules.ensures.last c.in_ok-push_rules.ensures.stretches

pub lines-preserved : goal.lines-preserved
lines-preserved c =
    change_told c.args.lines.now c.args.target.now c.args.init c.lines.place c.in-Change.address c.index-lines-place.result c.in-Change.rules c.as_slice.result.now _ _ c.lines-test.true c.index-lines-place.is c.in-Change.is c.as_slice.ensures
    c.in_ok-push_rules-2.ensures.last c.in_ok-push_rules-2.ensures.stretches c.lines.invariant

pub returns-in_default : goal.returns-in_default
returns-in_default c = changes_stop c.args.lines.now c.args.target.now c.args.init c.lines.place c.index-lines-place.result _ _ c.lines-test.true c.index-lines-place.is c.in_default.not-Change c.in_ok-map.ensures c.lines.invariant

pub returns : goal.returns
returns c = changes_end c.args.lines.now c.args.target.now c.args.init c.lines.place _ _ c.lines-test.false c.in_ok-map-2.ensures c.lines.invariant
