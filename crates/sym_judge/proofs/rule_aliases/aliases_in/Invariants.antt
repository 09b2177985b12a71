use Rattle.sym_judge.specs.internal.RuleAliases.{AreRuleAliases}
use Rattle.sym_judge.proofs.rule_aliases.aliases_in.Given as goal

abbrev pub invariant-lines : goal.invariant-lines
invariant-lines l = AreRuleAliases l.firsts.own.now l.lines l.aliases.items
