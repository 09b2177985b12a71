-- The rules of records, one target after the other; for `write_changes`, `write_registers`,
-- `write_row_rules`.
use Rattle.std.proofs.Common.{◌≡◌, ℕ, zero, suc, min, ◌+◌, ◌-◌, ◌<◌, ◌≤◌, ◌||◌, ◌&&◌, not, Bool, true, false, List, [], ◌∷◌, ◌++◌, map, cond, Option, None, Some, refl, ap, sym, ◌∙◌, arith, append_assoc, get_or, replicate, inl, inr}
use Rattle.std.specs.List.{flat_map, cons_option, list_any, range_with_len, filter_map}
use Rattle.std.specs.Option.{option_to_list}
use Rattle.std.proofs.lemmas.Bool.{cases_lt, or_from}
use Rattle.std.proofs.lemmas.List.{get_or_past, get_or-replicate, length-replicate}
use Rattle.std.proofs.lemmas.List.Concat.{flat_map-append}
use Rattle.std.proofs.lemmas.List.Elements.{filter_map-append}
use Rattle.std.proofs.lemmas.List.FromFn.{map-range_with_len_more, get_or-range_with_len, length-range_with_len}
use Rattle.std.proofs.lemmas.List.Folds.{list_any-append, list_any_at}
use Rattle.frame_entries.specs.FdeFields.{FdeFields}
use Rattle.frame_rows.specs.declared.row.Row.{Row}
use Rattle.frame_rows.specs.declared.row.Rule.{Rule}
use Rattle.sym_rules.specs.declared.rules.Target.{Target}
use Rattle.sym_rules.specs.declared.rules.Target.TheVariants.{Cfa, Ra, Reg, Other}
use Rattle.sym_rules.specs.declared.rules.Token.{Token}
use Rattle.sym_rules.specs.Rules.{spelled_rule, spelled_rules}
use Rattle.frame_rows.specs.Rows.{empty_row}
use Rattle.frame_rows.specs.Columns.{StayOutside}
use Rattle.frame_rows.specs.internal.Touched.{all_columns}
use Rattle.frame_rows.specs.declared.columns.Columns.{Columns}
use Rattle.frame_rows.specs.declared.row.Rule.TheVariants as rule
use Rattle.rule_postfix.specs.declared.parts.RowPart.{RowPart}
use Rattle.rule_postfix.specs.declared.parts.RowPart.TheVariants.{Unruled, Base, Column}
use Rattle.rule_postfix.specs.RowParts.{becomes_unspecified, is_unspecified, is_unruled, cfa_part, rule_at, part_of, column_part}
use Rattle.rule_postfix.proofs.PartLemmas.{same_rules}
use Rattle.rule_postfix.specs.internal.Backward.{rule_text, registers_from, some_unspecified_from}
use Rattle.rule_postfix.specs.RowRules.{rule_of, rule_by, rules_of, rules_by, registers, targets, if_other, spelled, if_ruled, row_rules, if_changed, changed_rules, some_unspecified_below, some_becomes_unspecified}

-- The rules of a list of targets.
pub one_rule : (tokens : Target → Option (List Token)) (t : Target) → rules_of tokens (t ∷ []) ≡ option_to_list (rule_of t (tokens t))
unfolding rules_of
one_rule tokens t = elim (tokens t) as (λ o. filter_map (λ (u : Target). rule_of t o) (t ∷ []) ≡ option_to_list (rule_of t o)) [ None ↦ refl | Some words ↦ refl ]

pub rules_append : (tokens : Target → Option (List Token)) (xs ys : List Target) → rules_of tokens (xs ++ ys) ≡ rules_of tokens xs ++ rules_of tokens ys
unfolding rules_of
rules_append tokens xs ys = filter_map-append (rule_by tokens) xs ys

rules_cons : (tokens : Target → Option (List Token)) (t : Target) (ts : List Target) → rules_of tokens (t ∷ ts) ≡ option_to_list (rule_of t (tokens t)) ++ rules_of tokens ts
rules_cons tokens t ts = rules_append tokens (t ∷ []) ts ∙ ap (λ xs. xs ++ rules_of tokens ts) (one_rule tokens t)

pub rules_front : (tokens : Target → Option (List Token)) (t : Target) (ts : List Target) → spelled_rules (rules_of tokens (t ∷ ts)) ≡ rule_text t (tokens t) ++ spelled_rules (rules_of tokens ts)
unfolding rule_text spelled_rules
rules_front tokens t ts = ap (λ rules. flat_map spelled_rule rules) (rules_cons tokens t ts) ∙ flat_map-append spelled_rule (option_to_list (rule_of t (tokens t))) (rules_of tokens ts)

-- A column that does not change has no rule.
no_text : (fde : FdeFields) (t : Target) (column : ℕ) (before after : Rule) → before ≡ after → rule_text t (if_other fde t (column_part column before) (column_part column after)) ≡ []
unfolding rule_text spelled_rules
no_text fde t column before after e = ap (λ o. rule_text t o) (sym (same_rules fde t column before after e))

-- The registers from a number on, if there are more.
registers_more : (n : ℕ) → n < 16 → registers_from n ≡ Reg n ∷ registers_from (n + 1)
unfolding registers_from
registers_more n below =
    let more : 16 - n ≡ suc (16 - (n + 1)) = omega arith in
    ap (λ k. map Reg (range_with_len n k)) more

text_more : (fde : FdeFields) (before after : Row) (n : ℕ) → n < 16 → spelled_rules (rules_of (if_changed fde before after) (registers_from n)) ≡ rule_text (Reg n) (if_other fde (Reg n) (column_part n (rule_at before n)) (column_part n (rule_at after n))) ++ spelled_rules (rules_of (if_changed fde before after) (registers_from (n + 1)))
unfolding if_changed part_of
text_more fde before after n below =
    let tokens : Target → Option (List Token) = if_changed fde before after in
    ap (λ ts. spelled_rules (rules_of tokens ts)) (registers_more n below) ∙ rules_front tokens (Reg n) (registers_from (n + 1))

text_stays : (fde : FdeFields) (before after : Row) (n : ℕ) → n < 16 → rule_at before n ≡ rule_at after n → spelled_rules (rules_of (if_changed fde before after) (registers_from n)) ≡ spelled_rules (rules_of (if_changed fde before after) (registers_from (n + 1)))
text_stays fde before after n below stays =
    text_more fde before after n below ∙ ap (λ l. l ++ spelled_rules (rules_of (if_changed fde before after) (registers_from (n + 1)))) (no_text fde (Reg n) n (rule_at before n) (rule_at after n) stays)

-- No column from a number on changes.
text_none : (fde : FdeFields) (before after : Row) (m n : ℕ) → n + m ≡ 16 → ((k : ℕ) → n ≤ k → k < 16 → rule_at before k ≡ rule_at after k) → spelled_rules (rules_of (if_changed fde before after) (registers_from n)) ≡ []
unfolding rules_of registers_from spelled_rules
text_none fde before after zero n is stays =
    let all : n ≡ 16 = omega arith in
    ap (λ k. spelled_rules (rules_of (if_changed fde before after) (registers_from k))) all
text_none fde before after (suc m) n is stays =
    let below : n < 16 = omega arith in
    text_stays fde before after n below (stays n (omega arith) below) ∙ text_none fde before after m (n + 1) (omega arith) (λ k past low. stays k (omega arith) low)

-- No column below a number changes.
text_all : (fde : FdeFields) (before after : Row) (n : ℕ) → n ≤ 16 → ((k : ℕ) → k < n → rule_at before k ≡ rule_at after k) → spelled_rules (rules_of (if_changed fde before after) (registers_from n)) ≡ spelled_rules (rules_of (if_changed fde before after) (registers_from 0))
text_all fde before after zero small stays = refl
text_all fde before after (suc n) small stays =
    let below : n < 16 = omega arith in
    let next : suc n ≡ n + 1 = omega arith in
    ap (λ k. spelled_rules (rules_of (if_changed fde before after) (registers_from k))) next ∙ sym (text_stays fde before after n below (stays n (omega arith)))
    ∙ text_all fde before after n (omega arith) (λ k low. stays k (omega arith))

-- No column outside of some columns changes.
rest_stays : (columns : Columns) (before after : Row) (n k : ℕ) → StayOutside columns before after → n ≡ min columns.end 16 → n ≤ k → k < 16 → rule_at before k ≡ rule_at after k
rest_stays columns before after n k alike is past low = alike.above k (omega arith) (omega arith)

-- No register is written yet.
pub no_register : (fde : FdeFields) (columns : Columns) (before after : Row) (n : ℕ) (old : List ℕ) → StayOutside columns before after → n ≡ min columns.end 16 → old ≡ spelled_rules (rules_of (if_changed fde before after) (registers_from n)) ++ old
no_register fde columns before after n old alike is =
    sym (ap (λ l. l ++ old) (text_none fde before after (16 - n) n (omega arith) (λ k past low. rest_stays columns before after n k alike is past low)))

-- One register more, before the others.
pub one_register_more : (fde : FdeFields) (before after : Row) (n less : ℕ) (old behind now : List ℕ) → less + 1 ≡ n → n ≤ 16 → behind ≡ spelled_rules (rules_of (if_changed fde before after) (registers_from n)) ++ old → now ≡ rule_text (Reg less) (if_other fde (Reg less) (column_part less (rule_at before less)) (column_part less (rule_at after less))) ++ behind → now ≡ spelled_rules (rules_of (if_changed fde before after) (registers_from less)) ++ old
one_register_more fde before after n less old behind now at small was is =
    let text : List ℕ = rule_text (Reg less) (if_other fde (Reg less) (column_part less (rule_at before less)) (column_part less (rule_at after less))) in
    is ∙ ap (λ l. text ++ l) was ∙ sym (append_assoc text (spelled_rules (rules_of (if_changed fde before after) (registers_from n))) old)
    ∙ ap (λ k. (text ++ spelled_rules (rules_of (if_changed fde before after) (registers_from k))) ++ old) (sym at)
    ∙ ap (λ l. l ++ old) (sym (text_more fde before after less (omega arith)))

pub register_stays : (fde : FdeFields) (before after : Row) (n less : ℕ) (old behind : List ℕ) → less + 1 ≡ n → n ≤ 16 → behind ≡ spelled_rules (rules_of (if_changed fde before after) (registers_from n)) ++ old → rule_at before less ≡ rule_at after less → behind ≡ spelled_rules (rules_of (if_changed fde before after) (registers_from less)) ++ old
register_stays fde before after n less old behind at small was stays =
    was ∙ ap (λ k. spelled_rules (rules_of (if_changed fde before after) (registers_from k)) ++ old) (sym at) ∙ ap (λ l. l ++ old) (sym (text_stays fde before after less (omega arith) stays))

-- All registers.
pub all_registers : (fde : FdeFields) (columns : Columns) (before after : Row) (n : ℕ) (old now : List ℕ) → StayOutside columns before after → n ≤ columns.first → n ≤ 16 → now ≡ spelled_rules (rules_of (if_changed fde before after) (registers_from n)) ++ old → now ≡ spelled_rules (rules_of (if_changed fde before after) (registers 16)) ++ old
unfolding registers registers_from
all_registers fde columns before after n old now alike past small is =
    is ∙ ap (λ l. l ++ old) (text_all fde before after n small (λ k low. alike.below k (omega arith)))

-- The three parts of a record's rules.
pub all_rules : (fde : FdeFields) (before after : Row) (old first second third : List ℕ) → first ≡ spelled_rules (rules_of (if_changed fde before after) (registers 16)) ++ old → second ≡ rule_text Ra (if_other fde Ra (column_part 16 (rule_at before 16)) (column_part 16 (rule_at after 16))) ++ first → third ≡ rule_text Cfa (if_other fde Cfa (cfa_part before.cfa) (cfa_part after.cfa)) ++ second → third ≡ spelled_rules (changed_rules fde before after) ++ old
unfolding changed_rules rules_by if_changed part_of
all_rules fde before after old first second third a b c =
    let tokens : Target → Option (List Token) = if_changed fde before after in
    let last : List ℕ = spelled_rules (rules_of tokens (registers 16)) in
    c ∙ ap (λ l. rule_text Cfa (tokens Cfa) ++ l) (b ∙ ap (λ l. rule_text Ra (tokens Ra) ++ l) a ∙ sym (append_assoc (rule_text Ra (tokens Ra)) last old))
    ∙ sym (append_assoc (rule_text Cfa (tokens Cfa)) (rule_text Ra (tokens Ra) ++ last) old)
    ∙ ap (λ l. l ++ old) (sym (rules_front tokens Cfa (Ra ∷ registers 16) ∙ ap (λ l. rule_text Cfa (tokens Cfa) ++ l) (rules_front tokens Ra (registers 16))))

-- A return address that does not change has no rule.
pub no_ra_text : (fde : FdeFields) (before after : Row) (old : List ℕ) → rule_at before 16 ≡ rule_at after 16 → old ≡ rule_text Ra (if_other fde Ra (column_part 16 (rule_at before 16)) (column_part 16 (rule_at after 16))) ++ old
no_ra_text fde before after old stays = sym (ap (λ l. l ++ old) (no_text fde Ra 16 (rule_at before 16) (rule_at after 16) stays))

map_same : (xs : List ℕ) → map (λ k. k) xs ≡ xs
map_same [] = refl
map_same (x ∷ xs) = ap (λ ys. x ∷ ys) (map_same xs)

pub range_from_more : (a n : ℕ) → range_with_len a (n + 1) ≡ range_with_len a n ++ (a + n) ∷ []
range_from_more a n = sym (map_same (range_with_len a (n + 1))) ∙ map-range_with_len_more (λ k. k) a n (a + n) refl ∙ ap (λ xs. xs ++ (a + n) ∷ []) (map_same (range_with_len a n))

pub range_more : (n : ℕ) → range_with_len 0 (n + 1) ≡ range_with_len 0 n ++ n ∷ []
range_more n = let from : 0 + n ≡ n = omega arith in range_from_more 0 n ∙ ap (λ k. range_with_len 0 n ++ k ∷ []) from

-- Columns that become unspecified.
pub no_more_rests : (before after : Row) (n : ℕ) → some_unspecified_below before after n ≡ false → becomes_unspecified before after n ≡ false → some_unspecified_below before after (n + 1) ≡ false
unfolding some_unspecified_below
no_more_rests before after n none stays =
    ap (list_any (becomes_unspecified before after)) (range_more n) ∙ list_any-append (becomes_unspecified before after) (range_with_len 0 n) (n ∷ [])
    ∙ or_from (list_any (becomes_unspecified before after) (range_with_len 0 n)) (becomes_unspecified before after n || false) none (or_from (becomes_unspecified before after n) false stays refl)

some_rests : (before after : Row) (n : ℕ) → n < 17 → becomes_unspecified before after n ≡ true → true ≡ some_unspecified_below before after 17
unfolding some_unspecified_below
some_rests before after n below rests =
    let here : get_or (range_with_len 0 17) n 0 ≡ n = get_or-range_with_len 0 17 n 0 below ∙ (omega arith) in
    sym (list_any_at (becomes_unspecified before after) (range_with_len 0 17) n 0 (omega (arith, length-range_with_len 0 17)) (ap (becomes_unspecified before after) here ∙ rests))

either_way : (is_so unruled : Bool) → (is_so && (unruled && not unruled)) ≡ false
either_way true true = refl
either_way true false = refl
either_way false unruled = refl

-- A column that does not change does not become unspecified.
rule_stays : (before after : Row) (column : ℕ) → rule_at before column ≡ rule_at after column → becomes_unspecified before after column ≡ false
unfolding becomes_unspecified
rule_stays before after column stays =
    ap (λ r. is_unspecified column && (is_unruled (column_part column (rule_at after column)) && not (is_unruled (column_part column r)))) stays
    ∙ either_way (is_unspecified column) (is_unruled (column_part column (rule_at after column)))

kept_more : (before after : Row) (n : ℕ) → n < 16 → becomes_unspecified before after n ≡ false → some_unspecified_from before after n ≡ some_unspecified_from before after (n + 1)
unfolding some_unspecified_from
kept_more before after n below stays =
    let more : 16 - n ≡ suc (16 - (n + 1)) = omega arith in
    ap (λ k. list_any (becomes_unspecified before after) (range_with_len n k)) more
    ∙ ap (λ b. b || list_any (becomes_unspecified before after) (range_with_len (n + 1) (16 - (n + 1)))) stays

kept_none : (before after : Row) (m n : ℕ) → n + m ≡ 16 → ((k : ℕ) → n ≤ k → k < 16 → rule_at before k ≡ rule_at after k) → some_unspecified_from before after n ≡ false
unfolding some_unspecified_from
kept_none before after zero n is stays =
    let all : n ≡ 16 = omega arith in
    ap (λ k. list_any (becomes_unspecified before after) (range_with_len k (16 - k))) all
kept_none before after (suc m) n is stays =
    let below : n < 16 = omega arith in
    kept_more before after n below (rule_stays before after n (stays n (omega arith) below)) ∙ kept_none before after m (n + 1) (omega arith) (λ k past low. stays k (omega arith) low)

kept_all : (before after : Row) (n : ℕ) → n ≤ 16 → ((k : ℕ) → k < n → rule_at before k ≡ rule_at after k) → some_unspecified_from before after n ≡ some_unspecified_from before after 0
kept_all before after zero small stays = refl
kept_all before after (suc n) small stays =
    let below : n < 16 = omega arith in
    let next : suc n ≡ n + 1 = omega arith in
    ap (some_unspecified_from before after) next ∙ sym (kept_more before after n below (rule_stays before after n (stays n (omega arith))))
    ∙ kept_all before after n (omega arith) (λ k low. stays k (omega arith))

pub none_lost : (columns : Columns) (before after : Row) (n : ℕ) → StayOutside columns before after → n ≡ min columns.end 16 → some_unspecified_from before after n ≡ false
none_lost columns before after n alike is = kept_none before after (16 - n) n (omega arith) (λ k past low. rest_stays columns before after n k alike is past low)

pub one_kept : (before after : Row) (n less : ℕ) → less + 1 ≡ n → n ≤ 16 → some_unspecified_from before after n ≡ false → becomes_unspecified before after less ≡ false → some_unspecified_from before after less ≡ false
one_kept before after n less at small none stays = kept_more before after less (omega arith) stays ∙ ap (some_unspecified_from before after) at ∙ none

pub stays_kept : (before after : Row) (n less : ℕ) → less + 1 ≡ n → n ≤ 16 → some_unspecified_from before after n ≡ false → rule_at before less ≡ rule_at after less → some_unspecified_from before after less ≡ false
stays_kept before after n less at small none stays = one_kept before after n less at small none (rule_stays before after less stays)

pub one_lost : (before after : Row) (n : ℕ) → n < 17 → becomes_unspecified before after n ≡ true → some_becomes_unspecified before after ≡ true
unfolding some_becomes_unspecified
one_lost before after n below lost = sym (some_rests before after n below lost)

pub all_kept : (columns : Columns) (before after : Row) (n : ℕ) → StayOutside columns before after → n ≤ columns.first → n ≤ 16 → some_unspecified_from before after n ≡ false → some_unspecified_below before after 16 ≡ false
unfolding some_unspecified_from some_unspecified_below
all_kept columns before after n alike past small none = sym (kept_all before after n small (λ k low. alike.below k (omega arith))) ∙ none

pub ra_kept : (before after : Row) → becomes_unspecified before after 16 ≡ false → some_unspecified_below before after 16 ≡ false → some_becomes_unspecified before after ≡ false
unfolding some_becomes_unspecified
ra_kept before after stays none = no_more_rests before after 16 none stays

pub ra_stays : (before after : Row) → rule_at before 16 ≡ rule_at after 16 → some_unspecified_below before after 16 ≡ false → some_becomes_unspecified before after ≡ false
ra_stays before after stays none = ra_kept before after (rule_stays before after 16 stays) none

-- Outside of all columns there is no column.
pub alike_outside : (columns : Columns) (before after : Row) → columns ≡ all_columns → StayOutside columns before after
alike_outside columns before after all =
    let first : columns.first ≡ 0 = ap (λ (c : Columns). c.first) all in
    let end : columns.end ≡ 17 = ap (λ (c : Columns). c.end) all in
    record { below = λ k low. absurd (omega arith); above = λ k past low. absurd (omega arith) }

-- The changes from a row without rules are the rules of the columns that are not unruled.
if_from_rest : (fde : FdeFields) (t : Target) (p : RowPart) → if_other fde t Unruled p ≡ cond (is_unruled p) None (spelled fde t p)
if_from_rest fde t Unruled = refl
if_from_rest fde t (Base cfa) = refl
if_from_rest fde t (Column given) = refl

rest_at : (column : ℕ) → rule_at empty_row column ≡ rule.Rest
unfolding empty_row
rest_at column =
    elim (cases_lt column 17) [
      | inl below ↦ get_or-replicate 17 column rule.Rest rule.Rest below
      | inr past ↦ get_or_past (replicate 17 rule.Rest) column rule.Rest (omega (arith, length-replicate 17 rule.Rest))
    ]

resting_part : (column : ℕ) → column_part column rule.Rest ≡ Unruled
unfolding column_part
resting_part column = refl

empty_part : (column : ℕ) → column_part column (rule_at empty_row column) ≡ Unruled
empty_part column = ap (column_part column) (rest_at column) ∙ resting_part column

if_from_empty : (fde : FdeFields) (row : Row) (t : Target) → if_changed fde empty_row row t ≡ if_ruled fde row t
unfolding if_changed if_ruled part_of empty_row
if_from_empty fde row Cfa = if_from_rest fde Cfa (cfa_part row.cfa)
if_from_empty fde row Ra = ap (λ p. if_other fde Ra p (column_part 16 (rule_at row 16))) (empty_part 16) ∙ if_from_rest fde Ra (column_part 16 (rule_at row 16))
if_from_empty fde row (Reg k) = ap (λ p. if_other fde (Reg k) p (column_part k (rule_at row k))) (empty_part k) ∙ if_from_rest fde (Reg k) (column_part k (rule_at row k))
if_from_empty fde row (Other name) = refl

rules_same : (f g : Target → Option (List Token)) → ((t : Target) → f t ≡ g t) → (ts : List Target) → rules_of f ts ≡ rules_of g ts
unfolding rules_of
rules_same f g same [] = refl
rules_same f g same (t ∷ ts) = ap (λ o. cons_option (rule_of t o) (rules_of f ts)) (same t) ∙ ap (cons_option (rule_of t (g t))) (rules_same f g same ts)

pub rules_from_empty : (fde : FdeFields) (row : Row) → changed_rules fde empty_row row ≡ row_rules fde row
unfolding changed_rules row_rules rules_by
rules_from_empty fde row = rules_same (if_changed fde empty_row row) (if_ruled fde row) (if_from_empty fde row) targets

pub from_empty : (fde : FdeFields) (empty row : Row) (old now : List ℕ) → empty ≡ empty_row → now ≡ spelled_rules (changed_rules fde empty row) ++ old → now ≡ spelled_rules (row_rules fde row) ++ old
from_empty fde empty row old now e made = made ∙ ap (λ r. spelled_rules (changed_rules fde r row) ++ old) e ∙ ap (λ rules. spelled_rules rules ++ old) (rules_from_empty fde row)

-- After a row without rules no column becomes unspecified.
never : (is_so unruled : Bool) → (is_so && (unruled && false)) ≡ false
never true true = refl
never true false = refl
never false unruled = refl

none_behind : (row : Row) (column : ℕ) → becomes_unspecified empty_row row column ≡ false
unfolding becomes_unspecified
none_behind row column =
    ap (λ p. is_unspecified column && (is_unruled (column_part column (rule_at row column)) && not (is_unruled p))) (empty_part column)
    ∙ never (is_unspecified column) (is_unruled (column_part column (rule_at row column)))

none_of_all : (p : ℕ → Bool) → ((k : ℕ) → p k ≡ false) → (xs : List ℕ) → list_any p xs ≡ false
none_of_all p none [] = refl
none_of_all p none (x ∷ xs) = or_from (p x) (list_any p xs) (none x) (none_of_all p none xs)
