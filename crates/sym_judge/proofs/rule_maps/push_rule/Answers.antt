use Rattle.std.proofs.Common.{sym, subst, ◌∙◌, refl, arith}
use Rattle.step_maps.specs.Covers.{AreStretches}
use Rattle.step_maps.proofs.StretchLemmas.{stretches_push}
use Rattle.sym_judge.specs.internal.RuleMaps.{with_rule, AreLast}
use Rattle.sym_judge.proofs.RuleMapLemmas.{rule_told, rule_passed}
use Rattle.sym_judge.proofs.rule_maps.push_rule.Goals as goal

pub returns-then-not-is_same_target-clause-last : goal.returns-then-not-is_same_target-clause-last
returns-then-not-is_same_target-clause-last c = λ lines done words before.
    rule_passed lines c.args.target.now c.args.items.now.items c.args.start c.args.rule.now done (sym c.is_same_target.ensures ∙ c.if-not-is_same_target.true) before

pub returns-clause-stretches : goal.returns-clause-stretches
returns-clause-stretches c = subst AreStretches (sym c.in_ok-push.ensures.items) (stretches_push c.args.items.now.items _ c.requires.stretches (omega (arith, c.ranges.start.fits)))

pub returns-clause-last : goal.returns-clause-last
returns-clause-last c = λ lines done words before.
    subst (λ all. AreLast lines c.args.target.now all (with_rule c.args.start c.args.rule.now done)) (sym c.in_ok-push.ensures.items)
    (rule_told lines c.args.target.now c.args.items.now.items _ c.args.rule.now done refl (sym c.is_same_target.ensures ∙ c.if-not-is_same_target.false) words before)
