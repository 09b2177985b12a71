-- What a row says about each target, as a part from which records are written: rules that mean the same are one part (DWARF 5, section 6.4.1; System
-- V ABI for AMD64, section 3.2.1).
use Rattle.std.specs.Prelude.{ℕ, ◌==◌, ◌&&◌, not, Bool, true, false, if◌then◌else◌, Option, Some, None}
use Rattle.sym_edges.specs.Abi.{Default, KeepsValue, IsCfa, Unspecified, default_of, is_kept, return_address}
use Rattle.std.specs.List.{slice_index_or}
use Rattle.std.specs.Ordering.{int_eq}
use Rattle.frame_rows.specs.declared.row.Rule.{Rule}
use Rattle.frame_rows.specs.declared.row.Rule.TheVariants as rule
use Rattle.frame_rows.specs.declared.row.CfaRule.{CfaRule}
use Rattle.frame_rows.specs.declared.row.CfaRule.TheVariants as cfa
use Rattle.expr_steps.specs.declared.place.Place.{Place}
use Rattle.frame_rows.specs.declared.row.Row.{Row}
use Rattle.sym_rules.specs.declared.rules.Target.{Target}
use Rattle.sym_rules.specs.declared.rules.Target.TheVariants.{Cfa, Ra, Reg, Other}
use Rattle.rule_postfix.specs.declared.parts.RowPart.{RowPart}
use Rattle.rule_postfix.specs.declared.parts.RowPart.TheVariants.{Unruled, Base, Column}

-- a register rule that names the column itself is the same-value rule
abbrev pub own_as_same : ℕ → Rule → Rule
own_as_same column rule.Rest = rule.Rest
own_as_same column rule.Undefined = rule.Undefined
own_as_same column rule.Same = rule.Same
own_as_same column (rule.Offset n) = rule.Offset n
own_as_same column (rule.ValOffset n) = rule.ValOffset n
own_as_same column (rule.Expr fetch place) = rule.Expr fetch place
own_as_same column (rule.Register register) = if register == column then rule.Same else rule.Register register

-- a column is unruled if it has no rule, is undefined, or has the same-value rule and is preserved by calls
abbrev pub by_group : Bool → Rule → RowPart
by_group kept rule.Rest = Unruled
by_group kept rule.Undefined = Unruled
by_group kept rule.Same = if kept then Unruled else Column rule.Same
by_group kept (rule.Offset n) = Column (rule.Offset n)
by_group kept (rule.ValOffset n) = Column (rule.ValOffset n)
by_group kept (rule.Register register) = Column (rule.Register register)
by_group kept (rule.Expr fetch place) = Column (rule.Expr fetch place)

unfoldable pub column_part : ℕ → Rule → RowPart
column_part column given = by_group (is_kept column) (own_as_same column given)

abbrev pub cfa_part : Option CfaRule → RowPart
cfa_part None = Unruled
cfa_part (Some cfa) = Base cfa

-- the rule of a column, and the part of a target
abbrev pub rule_at : Row → ℕ → Rule
rule_at row column = slice_index_or row.rules column rule.Rest

unfoldable pub part_of : Row → Target → RowPart
part_of row Cfa = cfa_part row.cfa
part_of row Ra = column_part return_address (rule_at row return_address)
part_of row (Reg column) = column_part column (rule_at row column)
part_of row (Other name) = Unruled

abbrev pub is_unruled : RowPart → Bool
is_unruled Unruled = true
is_unruled (Base cfa) = false
is_unruled (Column given) = false

abbrev pub same_bool : Bool → Bool → Bool
same_bool true b = b
same_bool false b = not b

-- two parts are the same. Two expressions are the same if they are at the same place, whatever their bytes are
abbrev pub same_place : Place → Place → Bool
same_place a b = same_bool a.own b.own && (a.start == b.start && a.len == b.len)

abbrev pub same_rule : Rule → Rule → Bool
same_rule rule.Rest rule.Rest = true
same_rule rule.Undefined rule.Undefined = true
same_rule rule.Same rule.Same = true
same_rule (rule.Offset m) (rule.Offset n) = int_eq m n
same_rule (rule.ValOffset m) (rule.ValOffset n) = int_eq m n
same_rule (rule.Register r) (rule.Register s) = r == s
same_rule (rule.Expr f p) (rule.Expr g q) = same_bool f g && same_place p q
same_rule _ _ = false

abbrev pub same_cfa : CfaRule → CfaRule → Bool
same_cfa (cfa.Base r m) (cfa.Base s n) = r == s && int_eq m n
same_cfa (cfa.Expr p) (cfa.Expr q) = same_place p q
same_cfa _ _ = false

abbrev pub same_part : RowPart → RowPart → Bool
same_part Unruled Unruled = true
same_part (Base a) (Base b) = same_cfa a b
same_part (Column a) (Column b) = same_rule a b
same_part _ _ = false

-- nothing is specified about a column without a rule if it is the return address or a register that a call may change. No rule can say that such a
-- column is unruled again
abbrev pub leaves_unspecified : Default → Bool
leaves_unspecified KeepsValue = false
leaves_unspecified IsCfa = false
leaves_unspecified Unspecified = true

unfoldable pub is_unspecified : ℕ → Bool
is_unspecified column = leaves_unspecified (default_of column)

-- a column of which nothing is specified without a rule becomes unspecified: it is unruled at the
-- second of two rows, and not at the first
unfoldable pub becomes_unspecified : Row → Row → ℕ → Bool
becomes_unspecified before after column =
    is_unspecified column && (is_unruled (column_part column (rule_at after column)) && not (is_unruled (column_part column (rule_at before column))))
