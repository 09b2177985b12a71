-- The rules of a record, which are written from the last to the first.
use Rattle.std.specs.Prelude.{◌≡◌, ℕ, ◌-◌, Bool, true, false, List, map, Option}
use Rattle.std.specs.List.{list_any, range_with_len}
use Rattle.std.specs.Option.{option_to_list}
use Rattle.frame_entries.specs.FdeFields.{FdeFields}
use Rattle.frame_rows.specs.declared.row.Row.{Row}
use Rattle.frame_rows.specs.Rows.{expr_bytes}
use Rattle.expr_postfix.specs.ExprTokens.{rule_tokens}
use Rattle.sym_rules.specs.declared.rules.Target.{Target}
use Rattle.sym_rules.specs.declared.rules.Target.TheVariants as target
use Rattle.sym_rules.specs.declared.rules.Token.{Token}
use Rattle.sym_rules.specs.Rules.{spelled_rules}
use Rattle.rule_postfix.specs.declared.column_target.ColumnTarget.{ColumnTarget}
use Rattle.rule_postfix.specs.declared.column_target.ColumnTarget.TheVariants.{Ra, Reg}
use Rattle.rule_postfix.specs.RowParts.{becomes_unspecified}
use Rattle.rule_postfix.specs.RowRules.{rule_of, some_becomes_unspecified}
use Rattle.rule_postfix.specs.declared.parts.RowPart.{RowPart}
use Rattle.rule_postfix.specs.declared.parts.RowPart.TheVariants.{Unruled, Base, Column}
use Rattle.rule_postfix.specs.declared.rules.ExprRule.{ExprRule}
use Rattle.rule_postfix.specs.declared.rules.Unwritten.{Unwritten}
use Rattle.rule_postfix.specs.declared.rules.Unwritten.TheVariants.{Unspecified, Expression}

-- the column of a target, and the target as rules name it
abbrev pub column_of : ColumnTarget → ℕ
column_of Ra = 16
column_of (Reg number) = number

abbrev pub target_of : ColumnTarget → Target
target_of Ra = target.Ra
target_of (Reg number) = target.Reg number

-- the words of an expression that is a rule
abbrev pub expr_spelled : FdeFields → ExprRule → Option (List Token)
expr_spelled e rule = rule_tokens rule.start rule.fetch (expr_bytes e rule.place)

-- whether a part is the rule of the CFA; no column has such a part
abbrev pub is_base : RowPart → Bool
is_base Unruled = false
is_base (Base cfa) = true
is_base (Column given) = false

-- if changes were not written because a column becomes unspecified, some column becomes unspecified
abbrev pub IfLost : Row → Row → Unwritten → Type 0
IfLost before after Unspecified = some_becomes_unspecified before after ≡ true
IfLost before after Expression = Unit {0}

-- the text of a target's rule; empty if the target has no words
unfoldable pub rule_text : Target → Option (List Token) → List ℕ
rule_text t tokens = spelled_rules (option_to_list (rule_of t tokens))

-- the registers from `n` on
unfoldable pub registers_from : ℕ → List Target
registers_from n = map target.Reg (range_with_len n (16 - n))

-- a register from `n` on becomes unspecified
unfoldable pub some_unspecified_from : Row → Row → ℕ → Bool
some_unspecified_from before after n = list_any (becomes_unspecified before after) (range_with_len n (16 - n))
