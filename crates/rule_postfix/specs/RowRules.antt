-- The rules of frame records (Breakpad's symbol_files.md, "STACK CFI"): how a part is spelled, and which rules a record has.
use Rattle.std.specs.Prelude.{ℕ, Bool, true, false, if◌then◌else◌, List, [], ◌∷◌, map, Option, Some, None}
use Rattle.std.specs.List.{list_any, range_with_len, filter_map}
use Rattle.frame_rows.specs.declared.row.Rule.{Rule}
use Rattle.frame_rows.specs.declared.row.Rule.TheVariants as rule
use Rattle.frame_rows.specs.declared.row.CfaRule.{CfaRule}
use Rattle.frame_rows.specs.declared.row.CfaRule.TheVariants as cfa
use Rattle.frame_rows.specs.declared.row.Row.{Row}
use Rattle.frame_rows.specs.Rows.{expr_bytes}
use Rattle.frame_entries.specs.FdeFields.{FdeFields}
use Rattle.expr_postfix.specs.ExprTokens.{expr_tokens, rule_tokens}
use Rattle.sym_rules.specs.declared.rules.Target.{Target}
use Rattle.sym_rules.specs.declared.rules.Target.TheVariants.{Cfa, Ra, Reg, Other}
use Rattle.sym_rules.specs.declared.rules.Token.{Token}
use Rattle.sym_rules.specs.declared.rules.Token.TheVariants as token
use Rattle.sym_rules.specs.declared.rules.RuleText.{RuleText}
use Rattle.rule_postfix.specs.declared.parts.RowPart.{RowPart}
use Rattle.rule_postfix.specs.declared.parts.RowPart.TheVariants.{Unruled, Base, Column}
use Rattle.sym_edges.specs.Abi.{Default, KeepsValue, IsCfa, Unspecified, default_of}
use Rattle.rule_postfix.specs.RowParts.{is_unruled, same_part, part_of, becomes_unspecified}

-- the words that say that a target is unruled again: a preserved register has its own value, and rsp is the CFA. For other targets there are none
abbrev pub default_tokens : Default → ℕ → Option (List Token)
default_tokens KeepsValue column = Some (token.Reg column ∷ [])
default_tokens IsCfa column = Some (token.Cfa ∷ [])
default_tokens Unspecified column = None

abbrev pub unruled_tokens : Target → Option (List Token)
unruled_tokens Cfa = None
unruled_tokens Ra = None
unruled_tokens (Reg column) = default_tokens (default_of column) column
unruled_tokens (Other name) = None

-- the words that say that a register has its own value
abbrev pub own_name : Target → Option (List Token)
own_name Cfa = None
own_name Ra = None
own_name (Reg column) = Some (token.Reg column ∷ [])
own_name (Other name) = None

-- the words of a column's rule. They give the column's own register, the word at the CFA plus an
-- offset, the CFA plus an offset, a register, or an expression of the entry. The CFA may be on the
-- expression's stack at the start; `^` follows the expression if the value is the word at the
-- address that it gives
abbrev pub rule_spelled : FdeFields → Target → Rule → Option (List Token)
rule_spelled e t rule.Rest = None
rule_spelled e t rule.Undefined = None
rule_spelled e t rule.Same = own_name t
rule_spelled e t (rule.Offset n) = Some (token.Cfa ∷ token.Number n ∷ token.Add ∷ token.Fetch ∷ [])
rule_spelled e t (rule.ValOffset n) = Some (token.Cfa ∷ token.Number n ∷ token.Add ∷ [])
rule_spelled e t (rule.Register register) = Some (token.Reg register ∷ [])
rule_spelled e t (rule.Expr fetch place) = rule_tokens true fetch (expr_bytes e place)

-- the words of the CFA's rule: a register plus an offset, or an expression of the entry
abbrev pub cfa_tokens : FdeFields → CfaRule → Option (List Token)
cfa_tokens e (cfa.Base register offset) = Some (token.Reg register ∷ token.Number offset ∷ token.Add ∷ [])
cfa_tokens e (cfa.Expr place) = expr_tokens false (expr_bytes e place)

-- the words of a part of an entry's row, if it has a spelling
unfoldable pub spelled : FdeFields → Target → RowPart → Option (List Token)
spelled e t Unruled = unruled_tokens t
spelled e t (Base cfa) = cfa_tokens e cfa
spelled e t (Column given) = rule_spelled e t given

-- the targets in the order of their rules: `.cfa`, `.ra`, then the registers by number
unfoldable pub registers : ℕ → List Target
registers n = map Reg (range_with_len 0 n)

abbrev pub targets : List Target
targets = Cfa ∷ Ra ∷ registers 16

-- the rule of a target, if it has words
abbrev pub rule_of : Target → Option (List Token) → Option RuleText
rule_of t None = None
rule_of t (Some words) = Some (record { target = t; tokens = words })

abbrev pub rule_by : (Target → Option (List Token)) → Target → Option RuleText
rule_by tokens t = rule_of t (tokens t)

-- the rules of those targets that have words
unfoldable pub rules_of : (Target → Option (List Token)) → List Target → List RuleText
rules_of tokens ts = filter_map (rule_by tokens) ts

unfoldable pub rules_by : (Target → Option (List Token)) → List RuleText
rules_by tokens = rules_of tokens targets

-- the words of a target, if it is not unruled at a row
unfoldable pub if_ruled : FdeFields → Row → Target → Option (List Token)
if_ruled e row t = if is_unruled (part_of row t) then None else spelled e t (part_of row t)

-- the words of a target at the second of two rows, if they differ in it
abbrev pub if_other : FdeFields → Target → RowPart → RowPart → Option (List Token)
if_other e t before after = if same_part before after then None else spelled e t after

unfoldable pub if_changed : FdeFields → Row → Row → Target → Option (List Token)
if_changed e before after t = if_other e t (part_of before t) (part_of after t)

-- the rules of a row of an entry, and the rules that change between two rows
unfoldable pub row_rules : FdeFields → Row → List RuleText
row_rules e row = rules_by (if_ruled e row)

unfoldable pub changed_rules : FdeFields → Row → Row → List RuleText
changed_rules e before after = rules_by (if_changed e before after)

-- some column becomes unspecified, which no rule can say
unfoldable pub some_unspecified_below : Row → Row → ℕ → Bool
some_unspecified_below before after n = list_any (becomes_unspecified before after) (range_with_len 0 n)

unfoldable pub some_becomes_unspecified : Row → Row → Bool
some_becomes_unspecified before after = some_unspecified_below before after 17
