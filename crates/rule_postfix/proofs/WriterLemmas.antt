-- The INIT that is open after a row; for the lemmas of StepsLemmas.
use Rattle.std.proofs.Common.{ℕ, ◌≤◌, Bool, true, false, List, cond}
use Rattle.frame_entries.specs.FdeFields.{FdeFields}
use Rattle.frame_rows.specs.declared.row.Row.{Row}
use Rattle.sym_rules.specs.declared.rules.RuleText.{RuleText}
use Rattle.rule_postfix.specs.RowRules.{some_becomes_unspecified, changed_rules}
use Rattle.rule_postfix.specs.internal.Writing.{Open, opened, closed, with_changes, with_row}

-- The start of the open INIT has the same bounds as the start before and the row.
starts_by : (fde : FdeFields) (cut : Bool) (b : ℕ) (after : Row) (rules : List RuleText) (w : Open) (low : ℕ) → w.start ≤ low → b ≤ low → (cond cut (opened fde w.base (closed w b) b after) (with_changes b rules w)).start ≤ low
starts_by fde true b after rules w low first second = second
starts_by fde false b after rules w low first second = first

pub starts : (fde : FdeFields) (b : ℕ) (before after : Row) (w : Open) (low : ℕ) → w.start ≤ low → b ≤ low → (with_row fde b before after w).start ≤ low
unfolding with_row
starts fde b before after w low first second = starts_by fde (some_becomes_unspecified before after) b after (changed_rules fde before after) w low first second

above_by : (fde : FdeFields) (cut : Bool) (b : ℕ) (after : Row) (rules : List RuleText) (w : Open) (low : ℕ) → low ≤ w.start → low ≤ b → low ≤ (cond cut (opened fde w.base (closed w b) b after) (with_changes b rules w)).start
above_by fde true b after rules w low first second = second
above_by fde false b after rules w low first second = first

pub aboves : (fde : FdeFields) (b : ℕ) (before after : Row) (w : Open) (low : ℕ) → low ≤ w.start → low ≤ b → low ≤ (with_row fde b before after w).start
unfolding with_row
aboves fde b before after w low first second = above_by fde (some_becomes_unspecified before after) b after (changed_rules fde before after) w low first second
