use Rattle.std.proofs.Common.{arith}
use Rattle.sym_rules.specs.Rules.{spelled_rule, spelled_rules}
use Rattle.sym_rules.proofs.BufferLemmas.{hands_none, hands_piece, hands_broken, hands_all}
use Rattle.sym_rules.proofs.sink_rules.put_rules.Goals as goal

pub loop-rule-init : goal.loop-rule-init
loop-rule-init g c = hands_none _ _ _

pub loop-rule-preserved : goal.loop-rule-preserved
loop-rule-preserved g c =
    hands_piece spelled_rule c.args.rules.now c.loop-rule.rule-index c.rule-item.result _ _ _ _ _ _ _ _ _ _ (omega arith) c.rule-item.is c.loop-rule.invariant c.in-Ok.ensures

pub returns-in-Err : goal.returns-in-Err
unfolding spelled_rules
returns-in-Err g c =
    hands_broken spelled_rule c.args.rules.now c.loop-rule.rule-index c.rule-item.result _ _ _ _ _ _ _ _ _ _ _ _ (omega arith) c.rule-item.is c.loop-rule.invariant c.in-Err.ensures

pub returns : goal.returns
unfolding spelled_rules
returns g c = hands_all spelled_rule c.args.rules.now c.loop-rule.rule-index _ _ _ _ _ _ _ (omega arith) c.loop-rule.invariant
