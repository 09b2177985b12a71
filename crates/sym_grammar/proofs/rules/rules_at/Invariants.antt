use Rattle.std.proofs.Common.{◌≡◌, length}
use Rattle.sym_rules.specs.Cuts.{is_space, skip}
use Rattle.sym_rules.specs.RuleReading.{words, groups, each, rule_at}
use Rattle.sym_grammar.specs.internal.Runs.{behind}
use Rattle.sym_grammar.proofs.rules.rules_at.Given as goal

abbrev pub invariant-turns : goal.invariant-turns
invariant-turns l = record {
  stays : skip is_space l.rest ≡ l.rest;
  so_far : each rule_at (groups (words l.bytes)) ≡ behind l.rules.items (each rule_at (groups (words l.rest)));
}

abbrev pub decreases-turns : goal.decreases-turns
decreases-turns l = length l.rest
