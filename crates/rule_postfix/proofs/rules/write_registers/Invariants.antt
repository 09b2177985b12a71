use Rattle.std.proofs.Common.{◌≡◌, ◌≤◌, ◌+◌, ◌*◌, ◌-◌, ◌++◌, false, length}
use Rattle.sym_rules.specs.Rules.{spelled_rules}
use Rattle.rule_postfix.specs.RowRules.{rules_of, if_changed}
use Rattle.rule_postfix.specs.internal.Backward.{registers_from, some_unspecified_from}
use Rattle.rule_postfix.proofs.rules.write_registers.Given as goal

abbrev pub invariant-turns : goal.invariant-turns
invariant-turns l = record {
  small : l.number ≤ 16;
  near : length l.line ≤ length l.fn.line + 40 * (16 - l.number);
  kept : some_unspecified_from l.rows.before.now l.rows.after.now l.number ≡ false;
  written : l.line ≡ spelled_rules (rules_of (if_changed l.rows.fde.now l.rows.before.now l.rows.after.now) (registers_from l.number)) ++ l.fn.line;
}

abbrev pub decreases-turns : goal.decreases-turns
decreases-turns l = l.number
