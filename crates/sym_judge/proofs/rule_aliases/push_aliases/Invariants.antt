use Rattle.sym_judge.specs.internal.RuleAliases.{AreRuleAliases}
use Rattle.sym_judge.proofs.rule_aliases.push_aliases.Given as goal

abbrev pub invariant-rules : goal.invariant-rules
invariant-rules l = AreRuleAliases l.firsts.own.now l.lines l.aliases.items
