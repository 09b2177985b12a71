-- The rules of a text, of which the last for each target counts, show what a row says about each
-- target; for the lemmas of FoundLemmas.
use Rattle.std.proofs.Common.{◌≡◌, ℕ, zero, suc, ◌+◌, ◌<◌, ◌≤◌, ◌==◌, ◌&&◌, not, nat_lt, Bool, true, false, cond, List, [], ◌∷◌, ◌++◌, map, Option, None, Some, is_some, refl, ap, sym, ◌∙◌, arith, inl, inr, eq-eqb}
use Rattle.std.specs.List.{range_with_len, cons_option}
use Rattle.std.specs.Option.{option_or}
use Rattle.std.specs.Ordering.{int_eq}
use Rattle.std.proofs.lemmas.Bool.{ne_eqb, cases_lt, and_parts, eqb-true}
use Rattle.std.proofs.lemmas.Bool.Decides.{nat_tests, Decides-int_eq}
use Rattle.sym_edges.specs.Abi.{Default, KeepsValue, IsCfa, Unspecified, default_of, is_kept}
use Rattle.frame_entries.specs.FdeFields.{FdeFields}
use Rattle.frame_rows.specs.declared.row.Row.{Row}
use Rattle.frame_rows.specs.declared.row.Rule.{Rule}
use Rattle.frame_rows.specs.declared.row.Rule.TheVariants as rule
use Rattle.frame_rows.specs.declared.row.CfaRule.{CfaRule}
use Rattle.frame_rows.specs.declared.row.CfaRule.TheVariants as cfa
use Rattle.expr_steps.specs.declared.place.Place.{Place}
use Rattle.frame_rows.specs.Steps.{has_cfa}
use Rattle.frame_rows.specs.Rows.{expr_bytes, is_sound_rule, is_sound_cfa, IsSound}
use Rattle.sym_rules.specs.declared.rules.Target.{Target}
use Rattle.sym_rules.specs.declared.rules.Target.TheVariants.{Cfa, Ra, Reg, Other}
use Rattle.sym_rules.specs.declared.rules.Token.{Token}
use Rattle.sym_rules.specs.declared.rules.RuleText.{RuleText}
use Rattle.rule_postfix.specs.declared.parts.RowPart.{RowPart}
use Rattle.rule_postfix.specs.declared.parts.RowPart.TheVariants.{Unruled, Base, Column}
use Rattle.cfi_eval.specs.TextRules.{same_target, rule_for}
use Rattle.rule_postfix.specs.RowParts.{own_as_same, by_group, column_part, cfa_part, rule_at, part_of, is_unruled, same_bool, same_place, same_rule, same_cfa, same_part, is_unspecified, leaves_unspecified, becomes_unspecified}
use Rattle.rule_postfix.specs.RowRules.{default_tokens, unruled_tokens, spelled, registers, rule_of, rules_of, rules_by, if_ruled, if_changed, row_rules, changed_rules, some_becomes_unspecified}
use Rattle.rule_postfix.proofs.RulesLemmas.{one_lost}
use Rattle.rule_postfix.proofs.ExprLemmas.{words_there, rule_there}

-- A target of the rules that are written.
abbrev pub IsTarget : Target → Type 0
IsTarget Cfa = Unit {0}
IsTarget Ra = Unit {0}
IsTarget (Reg k) = k < 16
IsTarget (Other name) = ⊥

-- The rules say about a target what the row says about it.
abbrev pub Shows : FdeFields → List RuleText → Row → Target → Type 0
Shows fde rules row t = option_or (rule_for t rules) (unruled_tokens t) ≡ spelled fde t (part_of row t)

or_none : {A : Type 0} (o : Option A) → option_or o None ≡ o
or_none None = refl
or_none (Some x) = refl

or_third : {A : Type 0} (a b c : Option A) → option_or (option_or a b) c ≡ option_or a (option_or b c)
or_third None b c = refl
or_third (Some x) b c = refl

or_some : {A : Type 0} (o old rest : Option A) → is_some o ≡ true → option_or (option_or o old) rest ≡ o
or_some None old rest some = cc
or_some (Some x) old rest some = refl

-- The last rule for a target in two lists.
for_append : (t : Target) (xs ys : List RuleText) → rule_for t (xs ++ ys) ≡ option_or (rule_for t ys) (rule_for t xs)
unfolding rule_for
for_append t [] ys = sym (or_none (rule_for t ys))
for_append t (x ∷ xs) ys =
    let here : Option (List Token) = cond (same_target x.target t) (Some x.tokens) None in
    ap (λ o. option_or o here) (for_append t xs ys) ∙ or_third (rule_for t ys) (rule_for t xs) here

-- One target more.
none_either : (b : Bool) → ◌≡◌ {A = Option (List Token)} (cond b None None) None
none_either true = refl
none_either false = refl

for_more : (t u : Target) (words : Option (List Token)) (rest : List RuleText) → rule_for t (cons_option (rule_of u words) rest) ≡ option_or (rule_for t rest) (cond (same_target u t) words None)
unfolding rule_for
for_more t u None rest = sym (ap (option_or (rule_for t rest)) (none_either (same_target u t)) ∙ or_none (rule_for t rest))
for_more t u (Some words) rest = refl

-- The registers from a number on have no rule for another target.
no_cfa : (g : Target → Option (List Token)) (b n : ℕ) → rule_for Cfa (rules_of g (map Reg (range_with_len b n))) ≡ None
unfolding rules_of rule_for
no_cfa g b zero = refl
no_cfa g b (suc n) = for_more Cfa (Reg b) (g (Reg b)) (rules_of g (map Reg (range_with_len (b + 1) n))) ∙ ap (λ o. option_or o None) (no_cfa g (b + 1) n)

no_ra : (g : Target → Option (List Token)) (b n : ℕ) → rule_for Ra (rules_of g (map Reg (range_with_len b n))) ≡ None
unfolding rules_of rule_for
no_ra g b zero = refl
no_ra g b (suc n) = for_more Ra (Reg b) (g (Reg b)) (rules_of g (map Reg (range_with_len (b + 1) n))) ∙ ap (λ o. option_or o None) (no_ra g (b + 1) n)

no_lower : (g : Target → Option (List Token)) (k b n : ℕ) → k < b → rule_for (Reg k) (rules_of g (map Reg (range_with_len b n))) ≡ None
unfolding rules_of rule_for
no_lower g k b zero below = refl
no_lower g k b (suc n) below =
    let other : (b == k) ≡ false = ne_eqb b k (λ same. absurd (omega (arith, same))) in
    for_more (Reg k) (Reg b) (g (Reg b)) (rules_of g (map Reg (range_with_len (b + 1) n)))
    ∙ ap (λ o. option_or o (cond (b == k) (g (Reg b)) None)) (no_lower g k (b + 1) n (omega arith)) ∙ ap (λ t. cond t (g (Reg b)) None) other

register_for : (g : Target → Option (List Token)) (k b n : ℕ) → b ≤ k → k < b + n → rule_for (Reg k) (rules_of g (map Reg (range_with_len b n))) ≡ g (Reg k)
unfolding rules_of rule_for
register_for g k b zero low high = absurd (omega arith)
register_for g k b (suc n) low high =
    for_more (Reg k) (Reg b) (g (Reg b)) (rules_of g (map Reg (range_with_len (b + 1) n)))
    ∙ elim (cases_lt b k) [
      | inl above ↦
          let other : (b == k) ≡ false = ne_eqb b k (λ same. absurd (omega (arith, same))) in
          ap (λ o. option_or o (cond (b == k) (g (Reg b)) None)) (register_for g k (b + 1) n (omega (arith, above)) (omega arith))
          ∙ ap (λ t. option_or (g (Reg k)) (cond t (g (Reg b)) None)) other ∙ or_none (g (Reg k))
      | inr past ↦
          let same : b ≡ k = omega (arith, past) in
          ap (λ o. option_or o (cond (b == k) (g (Reg b)) None)) (no_lower g k (b + 1) n (omega (arith, same)))
          ∙ ap (λ t. cond t (g (Reg b)) None) (eq-eqb b k same) ∙ ap (λ i. g (Reg i)) same
    ]

-- Among the rules that are written, each target has its own.
rule_is : (g : Target → Option (List Token)) (t : Target) → IsTarget t → rule_for t (rules_by g) ≡ g t
unfolding rules_by rules_of registers
rule_is g Cfa is =
    let regs : List RuleText = rules_of g (map Reg (range_with_len 0 16)) in
    for_more Cfa Cfa (g Cfa) (cons_option (rule_of Ra (g Ra)) regs)
    ∙ ap (λ o. option_or o (g Cfa)) (for_more Cfa Ra (g Ra) regs ∙ ap (λ o. option_or o None) (no_cfa g 0 16))
rule_is g Ra is =
    let regs : List RuleText = rules_of g (map Reg (range_with_len 0 16)) in
    for_more Ra Cfa (g Cfa) (cons_option (rule_of Ra (g Ra)) regs)
    ∙ or_none (rule_for Ra (cons_option (rule_of Ra (g Ra)) regs))
    ∙ for_more Ra Ra (g Ra) regs ∙ ap (λ o. option_or o (g Ra)) (no_ra g 0 16)
rule_is g (Reg k) is =
    let regs : List RuleText = rules_of g (map Reg (range_with_len 0 16)) in
    for_more (Reg k) Cfa (g Cfa) (cons_option (rule_of Ra (g Ra)) regs)
    ∙ or_none (rule_for (Reg k) (cons_option (rule_of Ra (g Ra)) regs))
    ∙ for_more (Reg k) Ra (g Ra) regs ∙ or_none (rule_for (Reg k) regs) ∙ register_for g k 0 16 (omega arith) (omega arith)
rule_is g (Other name) is = absurd is

-- A part that is not unruled counts, if it is spelled.
unruled_is : (p : RowPart) → is_unruled p ≡ true → p ≡ Unruled
unruled_is Unruled is = refl
unruled_is (Base cfa) is = cc
unruled_is (Column r) is = cc

or_here : {A : Type 0} (o rest : Option A) → is_some o ≡ true → option_or o rest ≡ o
or_here None rest some = cc
or_here (Some x) rest some = refl

ruled_or : (fde : FdeFields) (t : Target) (p : RowPart) (unruled : Bool) → is_unruled p ≡ unruled → (unruled ≡ false → is_some (spelled fde t p) ≡ true) → option_or (cond unruled None (spelled fde t p)) (unruled_tokens t) ≡ spelled fde t p
unfolding spelled
ruled_or fde t p true is there = sym (ap (spelled fde t) (unruled_is p is))
ruled_or fde t p false is there = or_here (spelled fde t p) (unruled_tokens t) (there refl)

-- Parts that are the same are equal.
bool_one : (a b : Bool) → same_bool a b ≡ true → a ≡ b
bool_one true true same = refl
bool_one true false same = cc
bool_one false true same = cc
bool_one false false same = refl

place_one : (p q : Place) → same_place p q ≡ true → p ≡ q
place_one p q same =
    let parts : (same_bool p.own q.own ≡ true) × ((p.start == q.start && p.len == q.len) ≡ true) = and_parts (same_bool p.own q.own) (p.start == q.start && p.len == q.len) same in
    let later : ((p.start == q.start) ≡ true) × ((p.len == q.len) ≡ true) = and_parts (p.start == q.start) (p.len == q.len) parts.1 in
    ap (λ b. (let r : Place = record { own = b; start = p.start; len = p.len } in r)) (bool_one p.own q.own parts.0)
    ∙ ap (λ n. (let r : Place = record { own = q.own; start = n; len = p.len } in r)) (eqb-true p.start q.start later.0)
    ∙ ap (λ n. (let r : Place = record { own = q.own; start = q.start; len = n } in r)) (eqb-true p.len q.len later.1)

cfa_one : (a b : CfaRule) → same_cfa a b ≡ true → a ≡ b
cfa_one (cfa.Base r m) (cfa.Base t n) same =
    let parts : ((r == t) ≡ true) × (int_eq m n ≡ true) = and_parts (r == t) (int_eq m n) same in
    ap (λ k. cfa.Base k m) (eqb-true r t parts.0) ∙ ap (cfa.Base t) ((Decides-int_eq m n).0 parts.1)
cfa_one (cfa.Expr p) (cfa.Expr q) same = ap cfa.Expr (place_one p q same)
cfa_one _ _ same = cc

rule_one : (a b : Rule) → same_rule a b ≡ true → a ≡ b
rule_one rule.Rest rule.Rest same = refl
rule_one rule.Undefined rule.Undefined same = refl
rule_one rule.Same rule.Same same = refl
rule_one (rule.Offset m) (rule.Offset n) same = ap rule.Offset ((Decides-int_eq m n).0 same)
rule_one (rule.ValOffset m) (rule.ValOffset n) same = ap rule.ValOffset ((Decides-int_eq m n).0 same)
rule_one (rule.Register r) (rule.Register s) same = ap rule.Register (eqb-true r s same)
rule_one (rule.Expr f p) (rule.Expr g q) same =
    let parts : (same_bool f g ≡ true) × (same_place p q ≡ true) = and_parts (same_bool f g) (same_place p q) same in
    ap (λ b. rule.Expr b p) (bool_one f g parts.0) ∙ ap (rule.Expr g) (place_one p q parts.1)
rule_one _ _ same = cc

part_one : (a b : RowPart) → same_part a b ≡ true → a ≡ b
part_one Unruled Unruled same = refl
part_one (Base a) (Base b) same = ap Base (cfa_one a b same)
part_one (Column a) (Column b) same = ap Column (rule_one a b same)
part_one _ _ same = cc

-- A part of a sound row that is not unruled can be spelled.
own_ra : (fde : FdeFields) (own kept : Bool) (s : ℕ) → (s == 16) ≡ own → nat_lt s 16 ≡ true → is_some (spelled fde Ra (by_group kept (cond own rule.Same (rule.Register s)))) ≡ true
unfolding spelled
own_ra fde true kept s is below = let same : s ≡ 16 = eqb-true s 16 is in absurd (grind (arith, nat_tests))
own_ra fde false kept s is below = refl

ra_spelled : (fde : FdeFields) (kept : Bool) (r : Rule) → is_sound_rule fde 16 r ≡ true → is_unruled (by_group kept (own_as_same 16 r)) ≡ false → is_some (spelled fde Ra (by_group kept (own_as_same 16 r))) ≡ true
unfolding spelled
ra_spelled fde kept rule.Rest sound ruled = cc
ra_spelled fde kept rule.Undefined sound ruled = cc
ra_spelled fde kept rule.Same sound ruled = cc
ra_spelled fde kept (rule.Offset n) sound ruled = refl
ra_spelled fde kept (rule.ValOffset n) sound ruled = refl
ra_spelled fde kept (rule.Expr fetch place) sound ruled = rule_there true fetch (expr_bytes fde place) sound
ra_spelled fde kept (rule.Register s) sound ruled = own_ra fde (s == 16) kept s refl sound

own_register : (fde : FdeFields) (own kept : Bool) (k s : ℕ) → is_unruled (by_group kept (cond own rule.Same (rule.Register s))) ≡ false → is_some (spelled fde (Reg k) (by_group kept (cond own rule.Same (rule.Register s)))) ≡ true
unfolding spelled
own_register fde true true k s ruled = cc
own_register fde true false k s ruled = refl
own_register fde false kept k s ruled = refl

register_spelled : (fde : FdeFields) (k : ℕ) (kept : Bool) (r : Rule) → is_sound_rule fde k r ≡ true → is_unruled (by_group kept (own_as_same k r)) ≡ false → is_some (spelled fde (Reg k) (by_group kept (own_as_same k r))) ≡ true
unfolding spelled
register_spelled fde k kept rule.Rest sound ruled = cc
register_spelled fde k kept rule.Undefined sound ruled = cc
register_spelled fde k true rule.Same sound ruled = cc
register_spelled fde k false rule.Same sound ruled = refl
register_spelled fde k kept (rule.Offset n) sound ruled = refl
register_spelled fde k kept (rule.ValOffset n) sound ruled = refl
register_spelled fde k kept (rule.Expr fetch place) sound ruled = rule_there true fetch (expr_bytes fde place) sound
register_spelled fde k kept (rule.Register s) sound ruled = own_register fde (s == k) kept k s ruled

cfa_spelled : (fde : FdeFields) (cfa : Option CfaRule) → is_sound_cfa fde cfa ≡ true → is_unruled (cfa_part cfa) ≡ false → is_some (spelled fde Cfa (cfa_part cfa)) ≡ true
unfolding spelled
cfa_spelled fde None sound ruled = cc
cfa_spelled fde (Some (cfa.Base register offset)) sound ruled = refl
cfa_spelled fde (Some (cfa.Expr place)) sound ruled = words_there false (expr_bytes fde place) sound

ruled_spelled : (fde : FdeFields) (row : Row) (t : Target) → IsSound fde row → IsTarget t → is_unruled (part_of row t) ≡ false → is_some (spelled fde t (part_of row t)) ≡ true
unfolding part_of column_part
ruled_spelled fde row Cfa sound is ruled = cfa_spelled fde row.cfa sound.cfa ruled
ruled_spelled fde row Ra sound is ruled = ra_spelled fde (is_kept 16) (rule_at row 16) (sound.columns 16) ruled
ruled_spelled fde row (Reg k) sound is ruled = register_spelled fde k (is_kept k) (rule_at row k) (sound.columns k) ruled
ruled_spelled fde row (Other name) sound is ruled = absurd is

-- The rules of a row show the row.
pub row_shows : (fde : FdeFields) (row : Row) (t : Target) → IsSound fde row → IsTarget t → Shows fde (row_rules fde row) row t
unfolding row_rules if_ruled
row_shows fde row t sound is =
    ap (λ o. option_or o (unruled_tokens t)) (rule_is (if_ruled fde row) t is)
    ∙ ruled_or fde t (part_of row t) (is_unruled (part_of row t)) refl (λ ruled. ruled_spelled fde row t sound is ruled)

-- A target that becomes unruled is shown, unless it becomes unspecified.
both_unruled : (a b : RowPart) → is_unruled a ≡ true → is_unruled b ≡ true → same_part a b ≡ true
both_unruled a b first second = ap (λ p. same_part p b) (unruled_is a first) ∙ ap (same_part Unruled) (unruled_is b second)

was_unruled : (p : RowPart) (lost : Bool) → (true && (lost && not (is_unruled p))) ≡ false → lost ≡ true → is_unruled p ≡ true
was_unruled Unruled lost none is = refl
was_unruled (Base cfa) lost none is = cc
was_unruled (Column r) lost none is = cc

cfa_has : (row : Row) → has_cfa row ≡ true → is_unruled (cfa_part row.cfa) ≡ true → ⊥
cfa_has row has unruled = go row.cfa refl
  where
    go : (cfa : Option CfaRule) → row.cfa ≡ cfa → ⊥
    go None is = let no : has_cfa row ≡ false = ap (λ (c : Option CfaRule). is_some c) is in cc
    go (Some cfa) is = let no : is_unruled (cfa_part row.cfa) ≡ false = ap (λ c. is_unruled (cfa_part c)) is in cc

default_spelled : (before after : Row) (k : ℕ) (d : Default) → default_of k ≡ d → becomes_unspecified before after k ≡ false → is_unruled (column_part k (rule_at after k)) ≡ true →
    same_part (column_part k (rule_at before k)) (column_part k (rule_at after k)) ≡ false → is_some (default_tokens d k) ≡ true
unfolding becomes_unspecified is_unspecified
default_spelled before after k KeepsValue is stays unruled other = refl
default_spelled before after k IsCfa is stays unruled other = refl
default_spelled before after k Unspecified is stays unruled other =
    let p : RowPart = column_part k (rule_at before k) in
    let q : RowPart = column_part k (rule_at after k) in
    let none : (true && (is_unruled q && not (is_unruled p))) ≡ false = sym (ap (λ e. leaves_unspecified e && (is_unruled q && not (is_unruled p))) is) ∙ stays in
    let was : is_unruled p ≡ true = was_unruled p (is_unruled q) none unruled in
    let same : same_part p q ≡ true = both_unruled p q was unruled in
    absurd (cc)

unruled_some : (fde : FdeFields) (t : Target) (p : RowPart) → is_unruled p ≡ true → is_some (unruled_tokens t) ≡ true → is_some (spelled fde t p) ≡ true
unfolding spelled
unruled_some fde t p is some = ap (λ q. is_some (spelled fde t q)) (unruled_is p is) ∙ some

stays_of : (before after : Row) (k : ℕ) → some_becomes_unspecified before after ≡ false → k < 17 → becomes_unspecified before after k ≡ false
stays_of before after k none below = go (becomes_unspecified before after k) refl
  where
    go : (b : Bool) → becomes_unspecified before after k ≡ b → b ≡ false
    go true is = let some : some_becomes_unspecified before after ≡ true = one_lost before after k below is in cc
    go false is = refl

unruled_spelled : (fde : FdeFields) (before after : Row) (t : Target) → has_cfa after ≡ true → some_becomes_unspecified before after ≡ false → IsTarget t → is_unruled (part_of after t) ≡ true → same_part (part_of before t) (part_of after t) ≡ false → is_some (spelled fde t (part_of after t)) ≡ true
unfolding part_of default_of is_kept
unruled_spelled fde before after Cfa has none is unruled other = absurd (cfa_has after has unruled)
unruled_spelled fde before after Ra has none is unruled other =
    let some : is_some (default_tokens Unspecified 16) ≡ true = default_spelled before after 16 Unspecified refl (stays_of before after 16 none (omega arith)) unruled other in
    cc
unruled_spelled fde before after (Reg k) has none is unruled other =
    unruled_some fde (Reg k) (column_part k (rule_at after k)) unruled (default_spelled before after k (default_of k) refl (stays_of before after k none (omega arith)) unruled other)
unruled_spelled fde before after (Other name) has none is unruled other = absurd is

-- A record of changes leads from rules that show a row to rules that show the next row.
pub next_shows : (fde : FdeFields) (rules : List RuleText) (before after : Row) (t : Target) → IsSound fde after → has_cfa after ≡ true → some_becomes_unspecified before after ≡ false → IsTarget t → Shows fde rules before t → Shows fde (rules ++ changed_rules fde before after) after t
unfolding changed_rules if_changed
next_shows fde rules before after t sound has none is shows =
    ap (λ o. option_or o (unruled_tokens t)) (for_append t rules (rules_by (if_changed fde before after)) ∙ ap (λ o. option_or o (rule_for t rules)) (rule_is (if_changed fde before after) t is))
    ∙ step (same_part (part_of before t) (part_of after t)) refl
  where
    told : (b : Bool) → is_unruled (part_of after t) ≡ b → same_part (part_of before t) (part_of after t) ≡ false → is_some (spelled fde t (part_of after t)) ≡ true
    told true unruled other = unruled_spelled fde before after t has none is unruled other
    told false ruled other = ruled_spelled fde after t sound is ruled

    step : (same : Bool) → same_part (part_of before t) (part_of after t) ≡ same → option_or (option_or (cond same None (spelled fde t (part_of after t))) (rule_for t rules)) (unruled_tokens t) ≡ spelled fde t (part_of after t)
    step true same = shows ∙ ap (spelled fde t) (part_one (part_of before t) (part_of after t) same)
    step false other = or_some (spelled fde t (part_of after t)) (rule_for t rules) (unruled_tokens t) (told (is_unruled (part_of after t)) refl other)
