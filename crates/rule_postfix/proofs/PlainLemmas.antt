-- The rules of sound rows can be spelled; for the lemmas of ValidLemmas.
use Rattle.std.proofs.Common.{◌≡◌, ℕ, ◌+◌, ◌<◌, ◌≤◌, ◌==◌, ◌&&◌, nat_lt, nat_le, Bool, true, false, cond, List, [], ◌∷◌, ◌++◌, length, Option, None, Some, is_some, refl, ap, sym, ◌∙◌, arith, append-nil, length-append}
use Rattle.std.specs.List.{list_all, cons_option}
use Rattle.std.proofs.lemmas.List.Folds.{list_all-append}
use Rattle.std.proofs.lemmas.Bool.{and_from, and_parts, lt-ltb, le-leb}
use Rattle.frame_entries.specs.FdeFields.{FdeFields}
use Rattle.frame_rows.specs.declared.row.Rule.{Rule}
use Rattle.frame_rows.specs.declared.row.Rule.TheVariants as rule
use Rattle.frame_rows.specs.declared.row.CfaRule.{CfaRule}
use Rattle.frame_rows.specs.declared.row.CfaRule.TheVariants as cfa
use Rattle.frame_rows.specs.declared.row.Row.{Row}
use Rattle.frame_rows.specs.Steps.{has_cfa}
use Rattle.frame_rows.specs.Rows.{expr_bytes, is_sound_rule, is_sound_cfa, IsSound}
use Rattle.sym_rules.specs.declared.rules.Target.{Target}
use Rattle.sym_rules.specs.declared.rules.Target.TheVariants.{Cfa, Ra, Reg, Other}
use Rattle.sym_rules.specs.declared.rules.Token.{Token}
use Rattle.sym_rules.specs.declared.rules.Token.TheVariants as token
use Rattle.sym_rules.specs.declared.rules.RuleText.{RuleText}
use Rattle.sym_edges.specs.Integers.{fits_i64}
use Rattle.sym_rules.specs.RuleValidity.{is_plain_target}
use Rattle.expr_postfix.specs.ExprTokens.{expr_tokens, with_fetch, rule_tokens, is_expr_word}
use Rattle.expr_postfix.proofs.FitLemmas.{words_some, words_few, words_plain}
use Rattle.rule_postfix.specs.LongRules.{is_long_rule}
use Rattle.rule_postfix.proofs.ExprLemmas.{words_there}
use Rattle.rule_postfix.specs.declared.parts.RowPart.{RowPart}
use Rattle.rule_postfix.specs.declared.parts.RowPart.TheVariants.{Unruled, Base, Column}
use Rattle.sym_edges.specs.Abi.{Default, KeepsValue, IsCfa, Unspecified, default_of, is_kept}
use Rattle.rule_postfix.specs.RowParts.{own_as_same, by_group, column_part, cfa_part, rule_at, part_of, is_unruled, same_part}
use Rattle.rule_postfix.specs.RowRules.{default_tokens, unruled_tokens, own_name, rule_spelled, cfa_tokens, spelled, registers, targets, rule_of, rules_of, rules_by, if_ruled, if_changed, row_rules, changed_rules}

-- A part whose registers are the sixteen, whose offsets fit into an i64, and whose expression rule
-- text can express.
sound_part : (fde : FdeFields) → RowPart → Bool
sound_part fde Unruled = true
sound_part fde (Base cfa) = is_sound_cfa fde (Some cfa)
sound_part fde (Column r) = is_sound_rule fde 0 r

-- One to 1,025 words of expressions, or none at all.
are_plain : List Token → Bool
are_plain words = nat_lt 0 (length words) && (nat_le (length words) 1025 && list_all is_expr_word words)

plain_or_none : Option (List Token) → Bool
plain_or_none None = true
plain_or_none (Some words) = are_plain words

default_plain : (d : Default) (k : ℕ) → nat_lt k 16 ≡ true → plain_or_none (default_tokens d k) ≡ true
unfolding plain_or_none are_plain
default_plain KeepsValue k below = ap (λ t. t && true) below
default_plain IsCfa k below = refl
default_plain Unspecified k below = refl

unruled_plain : (t : Target) → is_plain_target t ≡ true → plain_or_none (unruled_tokens t) ≡ true
unfolding plain_or_none
unruled_plain Cfa plain = refl
unruled_plain Ra plain = refl
unruled_plain (Reg k) plain = default_plain (default_of k) k plain
unruled_plain (Other name) plain = refl

own_plain : (t : Target) → is_plain_target t ≡ true → plain_or_none (own_name t) ≡ true
unfolding plain_or_none are_plain
own_plain Cfa plain = refl
own_plain Ra plain = refl
own_plain (Reg k) plain = ap (λ t. t && true) plain
own_plain (Other name) plain = refl

-- The words of an expression, and the same followed by `^`.
words_by : (start : Bool) (bytes : List ℕ) (words : List Token) (more : List Token) → expr_tokens start bytes ≡ Some words → length more ≤ 1 → list_all is_expr_word more ≡ true → are_plain (words ++ more) ≡ true
unfolding are_plain
words_by start bytes words more are few plain =
    let some : 0 < length words = words_some start bytes words are in
    let most : length words ≤ 1024 = words_few start bytes words are in
    and_from (nat_lt 0 (length (words ++ more))) _ (lt-ltb 0 (length (words ++ more)) (omega (arith, length-append words more)))
    (and_from (nat_le (length (words ++ more)) 1025) _ (le-leb (length (words ++ more)) 1025 (omega (arith, length-append words more)))
    (list_all-append is_expr_word words more ∙ and_from (list_all is_expr_word words) (list_all is_expr_word more) (words_plain start bytes words are) plain))

expr_by : (start : Bool) (bytes : List ℕ) (o : Option (List Token)) → expr_tokens start bytes ≡ o → plain_or_none o ≡ true
unfolding plain_or_none
expr_by start bytes None are = refl
expr_by start bytes (Some words) are = ap are_plain (sym (append-nil words)) ∙ words_by start bytes words [] are (omega arith) refl

fetch_by : (start : Bool) (bytes : List ℕ) (fetch : Bool) (o : Option (List Token)) → expr_tokens start bytes ≡ o → plain_or_none (with_fetch fetch o) ≡ true
unfolding plain_or_none
fetch_by start bytes fetch None are = refl
fetch_by start bytes true (Some words) are = words_by start bytes words (token.Fetch ∷ []) are (omega arith) refl
fetch_by start bytes false (Some words) are = expr_by start bytes (Some words) are

expr_plain : (start fetch : Bool) (bytes : List ℕ) → plain_or_none (rule_tokens start fetch bytes) ≡ true
unfolding rule_tokens
expr_plain start fetch bytes = fetch_by start bytes fetch (expr_tokens start bytes) refl

rule_plain : (fde : FdeFields) (t : Target) (r : Rule) → is_plain_target t ≡ true → is_sound_rule fde 0 r ≡ true → plain_or_none (rule_spelled fde t r) ≡ true
unfolding plain_or_none are_plain
rule_plain fde t rule.Rest plain sound = refl
rule_plain fde t rule.Undefined plain sound = refl
rule_plain fde t rule.Same plain sound = own_plain t plain
rule_plain fde t (rule.Offset n) plain sound = ap (λ t. t && true) sound
rule_plain fde t (rule.ValOffset n) plain sound = ap (λ t. t && true) sound
rule_plain fde t (rule.Register s) plain sound = ap (λ t. t && true) sound
rule_plain fde t (rule.Expr fetch place) plain sound = expr_plain true fetch (expr_bytes fde place)

trail : (a b : Bool) → (a && b) ≡ true → (a && (b && true)) ≡ true
trail true true is = refl
trail true false is = is
trail false b is = is

base_plain : (fde : FdeFields) (cfa : CfaRule) → is_sound_cfa fde (Some cfa) ≡ true → plain_or_none (cfa_tokens fde cfa) ≡ true
unfolding plain_or_none are_plain
base_plain fde (cfa.Base register offset) sound = trail (nat_lt register 16) (fits_i64 offset) sound
base_plain fde (cfa.Expr place) sound = expr_by false (expr_bytes fde place) (expr_tokens false (expr_bytes fde place)) refl

spelled_plain : (fde : FdeFields) (t : Target) (p : RowPart) → is_plain_target t ≡ true → sound_part fde p ≡ true → plain_or_none (spelled fde t p) ≡ true
unfolding spelled sound_part
spelled_plain fde t Unruled plain sound = unruled_plain t plain
spelled_plain fde t (Base cfa) plain sound = base_plain fde cfa sound
spelled_plain fde t (Column r) plain sound = rule_plain fde t r plain sound

-- The parts of a sound row are sound.
register_sound : (fde : FdeFields) (own kept : Bool) (s : ℕ) → nat_lt s 16 ≡ true → sound_part fde (by_group kept (cond own rule.Same (rule.Register s))) ≡ true
unfolding sound_part
register_sound fde true true s below = refl
register_sound fde true false s below = refl
register_sound fde false kept s below = below

group_sound : (fde : FdeFields) (k : ℕ) (kept : Bool) (r : Rule) → is_sound_rule fde k r ≡ true → sound_part fde (by_group kept (own_as_same k r)) ≡ true
unfolding sound_part
group_sound fde k kept rule.Rest sound = refl
group_sound fde k kept rule.Undefined sound = refl
group_sound fde k true rule.Same sound = refl
group_sound fde k false rule.Same sound = refl
group_sound fde k kept (rule.Offset n) sound = sound
group_sound fde k kept (rule.ValOffset n) sound = sound
group_sound fde k kept (rule.Expr fetch place) sound = sound
group_sound fde k kept (rule.Register s) sound = register_sound fde (s == k) kept s sound

column_sound : (fde : FdeFields) (row : Row) (k : ℕ) → IsSound fde row → sound_part fde (column_part k (rule_at row k)) ≡ true
unfolding column_part
column_sound fde row k sound = group_sound fde k (is_kept k) (rule_at row k) (sound.columns k)

cfa_sound : (fde : FdeFields) (cfa : Option CfaRule) → is_sound_cfa fde cfa ≡ true → sound_part fde (cfa_part cfa) ≡ true
unfolding sound_part
cfa_sound fde None sound = refl
cfa_sound fde (Some cfa) sound = sound

part_sound : (fde : FdeFields) (row : Row) (t : Target) → IsSound fde row → sound_part fde (part_of row t) ≡ true
unfolding part_of sound_part
part_sound fde row Cfa sound = cfa_sound fde row.cfa sound.cfa
part_sound fde row Ra sound = column_sound fde row 16 sound
part_sound fde row (Reg k) sound = column_sound fde row k sound
part_sound fde row (Other name) sound = refl

-- The words of each target can be spelled.
unless_plain : (t : Bool) (words : Option (List Token)) → plain_or_none words ≡ true → plain_or_none (cond t None words) ≡ true
unfolding plain_or_none
unless_plain true words plain = refl
unless_plain false words plain = plain

kept_plain : (fde : FdeFields) (row : Row) (t : Target) → IsSound fde row → is_plain_target t ≡ true → plain_or_none (if_ruled fde row t) ≡ true
unfolding if_ruled
kept_plain fde row t sound plain = unless_plain (is_unruled (part_of row t)) (spelled fde t (part_of row t)) (spelled_plain fde t (part_of row t) plain (part_sound fde row t sound))

changed_plain : (fde : FdeFields) (before after : Row) (t : Target) → IsSound fde after → is_plain_target t ≡ true → plain_or_none (if_changed fde before after t) ≡ true
unfolding if_changed
changed_plain fde before after t sound plain = unless_plain (same_part (part_of before t) (part_of after t)) (spelled fde t (part_of after t)) (spelled_plain fde t (part_of after t) plain (part_sound fde after t sound))

one_plain : (t : Target) (words : Option (List Token)) (rules : List RuleText) → is_plain_target t ≡ true → plain_or_none words ≡ true → list_all is_long_rule rules ≡ true → list_all is_long_rule (cons_option (rule_of t words) rules) ≡ true
unfolding is_long_rule plain_or_none are_plain
one_plain t None rules plain good rest = rest
one_plain t (Some words) rules plain good rest =
    and_from (is_long_rule (record { target = t; tokens = words })) (list_all is_long_rule rules) (and_from (is_plain_target t) (nat_lt 0 (length words) && (nat_le (length words) 1025 && list_all is_expr_word words)) plain good) rest

rules_plain : (tokens : Target → Option (List Token)) (ts : List Target) → ((t : Target) → is_plain_target t ≡ true → plain_or_none (tokens t) ≡ true) → list_all is_plain_target ts ≡ true → list_all is_long_rule (rules_of tokens ts) ≡ true
unfolding rules_of
rules_plain tokens [] good plain = refl
rules_plain tokens (t ∷ ts) good plain =
    let parts : (is_plain_target t ≡ true) × (list_all is_plain_target ts ≡ true) = and_parts (is_plain_target t) (list_all is_plain_target ts) plain in
    one_plain t (tokens t) (rules_of tokens ts) parts.0 (good t parts.0) (rules_plain tokens ts good parts.1)

targets_plain : list_all is_plain_target targets ≡ true
unfolding registers
targets_plain = refl

pub row_plain : (fde : FdeFields) (row : Row) → IsSound fde row → list_all is_long_rule (row_rules fde row) ≡ true
unfolding row_rules rules_by
row_plain fde row sound = rules_plain (if_ruled fde row) targets (λ t plain. kept_plain fde row t sound plain) targets_plain

pub changes_plain : (fde : FdeFields) (before after : Row) → IsSound fde after → list_all is_long_rule (changed_rules fde before after) ≡ true
unfolding changed_rules rules_by
changes_plain fde before after sound = rules_plain (if_changed fde before after) targets (λ t plain. changed_plain fde before after t sound plain) targets_plain

-- There is at most one rule for a target.
one_at_most : (t : Target) (words : Option (List Token)) (rules : List RuleText) → length (cons_option (rule_of t words) rules) ≤ length rules + 1
one_at_most t None rules = omega arith
one_at_most t (Some words) rules = omega arith

rules_most : (tokens : Target → Option (List Token)) (ts : List Target) → length (rules_of tokens ts) ≤ length ts
unfolding rules_of
rules_most tokens [] = omega arith
rules_most tokens (t ∷ ts) = omega (arith, rules_most tokens ts, one_at_most t (tokens t) (rules_of tokens ts))

eighteen : length targets ≡ 18
unfolding registers
eighteen = refl

pub row_most : (fde : FdeFields) (row : Row) → length (row_rules fde row) ≤ 18
unfolding row_rules rules_by
row_most fde row = omega (arith, rules_most (if_ruled fde row) targets, eighteen)

pub changes_most : (fde : FdeFields) (before after : Row) → length (changed_rules fde before after) ≤ 18
unfolding changed_rules rules_by
changes_most fde before after = omega (arith, rules_most (if_changed fde before after) targets, eighteen)

-- A row with a rule for the CFA has a rule.
some_first : (o : Option (List Token)) (rules : List RuleText) → is_some o ≡ true → 0 < length (cons_option (rule_of Cfa o) rules)
some_first None rules some = cc
some_first (Some words) rules some = omega arith

cfa_first : (fde : FdeFields) (cfa : Option CfaRule) (rules : List RuleText) → is_sound_cfa fde cfa ≡ true → is_some cfa ≡ true → 0 < length (cons_option (rule_of Cfa (cond (is_unruled (cfa_part cfa)) None (spelled fde Cfa (cfa_part cfa)))) rules)
unfolding spelled
cfa_first fde None rules sound some = cc
cfa_first fde (Some (cfa.Base register offset)) rules sound some = omega arith
cfa_first fde (Some (cfa.Expr place)) rules sound some = some_first (expr_tokens false (expr_bytes fde place)) rules (words_there false (expr_bytes fde place) sound)

pub row_some : (fde : FdeFields) (row : Row) → IsSound fde row → has_cfa row ≡ true → 0 < length (row_rules fde row)
unfolding row_rules rules_by rules_of if_ruled part_of
row_some fde row sound some = cfa_first fde row.cfa (rules_of (if_ruled fde row) (Ra ∷ registers 16)) sound.cfa some
