use Rattle.cfi_eval.proofs.TableLemmas.{puts_none, puts_more, puts_all}
use Rattle.cfi_eval.proofs.rules.put_rules.Goals as goal

pub rules-init : goal.rules-init
rules-init c = puts_none c.args.table.now c.args.rules.now

pub rules-preserved : goal.rules-preserved
rules-preserved c = puts_more c.args.rules.now c.rules.rule-index c.rule-item.result c.args.table.now c.rules.table c.put_rule.new.table c.rules-test.true c.rule-item.is c.rules.invariant c.put_rule.ensures

pub returns : goal.returns
returns c = puts_all c.args.rules.now c.rules.rule-index c.args.table.now c.rules.table c.rules-test.false c.rules.invariant
