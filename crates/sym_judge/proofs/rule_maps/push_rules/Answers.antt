use Rattle.std.proofs.Common.{subst, arith}
use Rattle.std.proofs.lemmas.List.{take_all}
use Rattle.sym_judge.specs.internal.RuleMaps.{with_rules, AreLast}
use Rattle.sym_judge.proofs.RuleMapLemmas.{rules_begin, rules_more}
use Rattle.sym_judge.proofs.rule_maps.push_rules.Goals as goal

pub rules-init : goal.rules-init
rules-init c = record {
  fit = c.requires.stretches;
  last = λ lines done is before. rules_begin lines c.args.target.now c.args.items.now.items c.args.rules.now c.args.start done before;
}

pub rules-preserved : goal.rules-preserved
rules-preserved c = record {
  fit = c.in_ok-push_rule.ensures.stretches;
  last = λ lines done is before.
      rules_more lines c.args.target.now c.args.rules.now c.args.line c.rules.rule c.args.start c.index-rules-rule.result c.rules.items.items c.push_rule.new.items.items done (omega arith) c.index-rules-rule.is c.in_ok-push_rule.ensures.last is
      (c.rules.invariant.last lines done is before);
}

pub returns-clause-stretches : goal.returns-clause-stretches
returns-clause-stretches c = c.rules.invariant.fit

pub returns-clause-last : goal.returns-clause-last
returns-clause-last c = λ lines done is before.
    subst (λ rs. AreLast lines c.args.target.now c.rules.items.items (with_rules c.args.start rs done)) (take_all c.rules.rule c.args.rules.now (omega arith)) (c.rules.invariant.last lines done is before)
