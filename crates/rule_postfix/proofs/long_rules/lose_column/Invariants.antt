use Rattle.std.proofs.Common.{◌≡◌, false}
use Rattle.rule_postfix.specs.RowRules.{some_unspecified_below}
use Rattle.rule_postfix.proofs.long_rules.lose_column.Given as goal

abbrev pub invariant-columns : goal.invariant-columns
invariant-columns l = some_unspecified_below l.before l.after l.column ≡ false
