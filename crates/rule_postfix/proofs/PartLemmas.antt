-- Parts that are the same; for the lemmas of LinesLemmas and RulesLemmas.
use Rattle.std.proofs.Common.{◌≡◌, ℕ, ℤ, ◌==◌, ◌&&◌, Bool, true, false, cond, None, refl, ap, sym, ◌∙◌, eq-eqb}
use Rattle.std.specs.Ordering.{int_eq}
use Rattle.std.proofs.lemmas.Bool.{and_from}
use Rattle.std.proofs.lemmas.Cmp.{int_eq_equiv}
use Rattle.frame_entries.specs.FdeFields.{FdeFields}
use Rattle.frame_rows.specs.declared.row.Rule.{Rule}
use Rattle.frame_rows.specs.declared.row.Rule.TheVariants as rule
use Rattle.frame_rows.specs.declared.row.CfaRule.{CfaRule}
use Rattle.frame_rows.specs.declared.row.CfaRule.TheVariants as cfa
use Rattle.expr_steps.specs.declared.place.Place.{Place}
use Rattle.sym_edges.specs.Abi.{is_kept}
use Rattle.rule_postfix.specs.internal.Backward.{is_base}
use Rattle.sym_rules.specs.declared.rules.Target.{Target}
use Rattle.rule_postfix.specs.declared.parts.RowPart.{RowPart}
use Rattle.rule_postfix.specs.declared.parts.RowPart.TheVariants.{Unruled, Base, Column}
use Rattle.rule_postfix.specs.RowParts.{own_as_same, by_group, same_bool, same_place, same_rule, same_cfa, same_part, column_part}
use Rattle.rule_postfix.specs.RowRules.{if_other, spelled}

int_same : (n : ℤ) → int_eq n n ≡ true
int_same n = int_eq_equiv.refl n

bool_same : (b : Bool) → same_bool b b ≡ true
bool_same true = refl
bool_same false = refl

place_same : (p : Place) → same_place p p ≡ true
place_same p = and_from (same_bool p.own p.own) (p.start == p.start && p.len == p.len) (bool_same p.own) (and_from (p.start == p.start) (p.len == p.len) (eq-eqb p.start p.start refl) (eq-eqb p.len p.len refl))

cfa_same : (c : CfaRule) → same_cfa c c ≡ true
cfa_same (cfa.Base register offset) = and_from (register == register) (int_eq offset offset) (eq-eqb register register refl) (int_same offset)
cfa_same (cfa.Expr place) = place_same place

rule_same : (r : Rule) → same_rule r r ≡ true
rule_same rule.Rest = refl
rule_same rule.Undefined = refl
rule_same rule.Same = refl
rule_same (rule.Offset n) = int_same n
rule_same (rule.ValOffset n) = int_same n
rule_same (rule.Register r) = eq-eqb r r refl
rule_same (rule.Expr fetch place) = and_from (same_bool fetch fetch) (same_place place place) (bool_same fetch) (place_same place)

-- A part is the same as itself.
pub part_same : (p : RowPart) → same_part p p ≡ true
part_same Unruled = refl
part_same (Base cfa) = cfa_same cfa
part_same (Column r) = rule_same r

-- The same part is no change.
pub no_other : (fde : FdeFields) (t : Target) (p : RowPart) → if_other fde t p p ≡ None
no_other fde t p = ap (λ b. cond b None (spelled fde t p)) (part_same p)

-- Equal rules are no change.
pub same_rules : (fde : FdeFields) (t : Target) (column : ℕ) (before after : Rule) → before ≡ after → None ≡ if_other fde t (column_part column before) (column_part column after)
same_rules fde t column before after e = sym (ap (λ r. if_other fde t (column_part column before) (column_part column r)) (sym e) ∙ no_other fde t (column_part column before))

-- No column has a part that is the rule of the CFA.
no_base_by : (kept : Bool) (r : Rule) → is_base (by_group kept r) ≡ false
no_base_by kept rule.Rest = refl
no_base_by kept rule.Undefined = refl
no_base_by true rule.Same = refl
no_base_by false rule.Same = refl
no_base_by kept (rule.Offset n) = refl
no_base_by kept (rule.ValOffset n) = refl
no_base_by kept (rule.Register s) = refl
no_base_by kept (rule.Expr fetch place) = refl

pub no_base : (column : ℕ) (r : Rule) → is_base (column_part column r) ≡ false
unfolding column_part
no_base column r = no_base_by (is_kept column) (own_as_same column r)
