use Rattle.std.proofs.Common.{◌++◌, arith, subst}
use Rattle.std.proofs.lemmas.List.{take_all}
use Rattle.sym_judge.specs.internal.Tables.{IsTable}
use Rattle.sym_judge.proofs.TableLemmas.{rules_more}
use Rattle.sym_judge.proofs.rule_tables.put_rules.Goals as goal

pub rules-preserved : goal.rules-preserved
rules-preserved c = λ lines before is table. rules_more lines c.args.rules.now before c.args.line c.rules.rule c.index-rules-rule.result c.rules.table _ (omega arith) c.index-rules-rule.is c.put_rule.ensures is (c.rules.invariant lines before is table)

pub returns : goal.returns
returns c = λ lines before is table. subst (λ rs. IsTable lines (before ++ rs) c.rules.table) (take_all c.rules.rule c.args.rules.now (omega arith)) (c.rules.invariant lines before is table)
