use Rattle.std.proofs.Common.{◌≡◌, ◌∷◌, ◌++◌}
use Rattle.sym_rules.specs.Rules.{spelled_rules}
use Rattle.sym_rules.specs.declared.rules.Target.TheVariants.{Cfa, Ra}
use Rattle.rule_postfix.specs.RowRules.{rules_of, registers, if_changed}
use Rattle.rule_postfix.proofs.long_rules.add_changes.Given as goal

abbrev pub invariant-registers : goal.invariant-registers
invariant-registers l = l.text.items ≡ l.fn.text.items ++ spelled_rules (rules_of (if_changed l.rows.fde.now l.rows.before.now l.rows.after.now) (Cfa ∷ Ra ∷ registers l.number))
