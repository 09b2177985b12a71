-- The first reason to leave an entry out; for `end_of`, `put_behind`, `put_free`, `reason_or`,
-- `reason_without_range`.
use Rattle.std.proofs.Common.{◌≡◌, ℕ, ◌+◌, ◌<◌, ◌≤◌, ◌&&◌, ◌^◌, not, nat_lt, Bool, true, false, cond, List, Option, None, Some, refl, ap, sym, ◌∙◌, arith}
use Rattle.std.proofs.lemmas.Bool.{and_right, and_from, le-ltb, lt-ltb}
use Rattle.rule_postfix.specs.internal.Deciding.{EndsAt}
use Rattle.sym_edges.specs.declared.reason.Reason.{Reason}
use Rattle.sym_edges.specs.declared.reason.Reason.TheVariants as reason
use Rattle.sym_edges.specs.Addresses.{Range}
use Rattle.range_set.specs.Enclosing.{encloses}
use Rattle.frame_entries.specs.FdeFields.{FdeFields}
use Rattle.sym_edges.specs.Results.{unless}
use Rattle.std.specs.Option.{option_or}
use Rattle.frame_rows.specs.Rows.{rows_fault, instruction_fault}
use Rattle.range_union.specs.Ranges.{any_overlap}
use Rattle.rule_postfix.specs.Written.{range_of, has_range, rows_reason, is_code, reason_among}

-- Without a range of addresses the instructions decide, and then the range is not code.
unranged : (code taken : List Range) (e : FdeFields) (why : Option Reason) → has_range e ≡ false → why ≡ instruction_fault e → reason_among code taken e ≡ option_or why (Some reason.Outside)
unfolding reason_among rows_reason is_code
unranged code taken e why none is =
    ap (λ t. option_or (cond t (rows_fault e) (instruction_fault e)) (option_or (unless (t && encloses code e.start (e.start + e.size)) reason.Outside) (unless (not (any_overlap (range_of e) taken)) reason.Overlap))) none
    ∙ ap (λ o. option_or o (Some reason.Outside)) (sym is)

pub unranged_bad : (code taken : List Range) (e : FdeFields) (why : Reason) → has_range e ≡ false → Some why ≡ instruction_fault e → reason_among code taken e ≡ Some why
unranged_bad code taken e why none is = unranged code taken e (Some why) none is

pub unranged_good : (code taken : List Range) (e : FdeFields) → has_range e ≡ false → None ≡ instruction_fault e → reason_among code taken e ≡ Some reason.Outside
unranged_good code taken e none is = unranged code taken e None none is

-- With a range of addresses the rows decide, then whether the range is code, then the taken ranges.
ranged : (code taken : List Range) (e : FdeFields) (why : Option Reason) (inside meets : Bool) → has_range e ≡ true → rows_fault e ≡ why → encloses code e.start (e.start + e.size) ≡ inside → any_overlap (range_of e) taken ≡ meets → reason_among code taken e ≡ option_or why (option_or (unless inside reason.Outside) (unless (not meets) reason.Overlap))
unfolding reason_among rows_reason is_code
ranged code taken e why inside meets has rows place met =
    ap (λ t. option_or (cond t (rows_fault e) (instruction_fault e)) (option_or (unless (t && encloses code e.start (e.start + e.size)) reason.Outside) (unless (not (any_overlap (range_of e) taken)) reason.Overlap))) has
    ∙ ap (λ o. option_or o (option_or (unless (encloses code e.start (e.start + e.size)) reason.Outside) (unless (not (any_overlap (range_of e) taken)) reason.Overlap))) rows
    ∙ ap (λ t. option_or why (option_or (unless t reason.Outside) (unless (not (any_overlap (range_of e) taken)) reason.Overlap))) place
    ∙ ap (λ t. option_or why (option_or (unless inside reason.Outside) (unless (not t) reason.Overlap))) met

-- The reason that the rows give, or else a later one.
pub later_reason : (rows : Option Reason) (later : Reason) → rows ≡ None → option_or rows (Some later) ≡ Some later
later_reason rows later none = ap (λ o. option_or o (Some later)) none

pub first_reason : (rows : Option Reason) (later why : Reason) → rows ≡ Some why → option_or rows (Some later) ≡ Some why
first_reason rows later why is = ap (λ o. option_or o (Some later)) is

pub no_rows : (code taken : List Range) (e : FdeFields) (why : Reason) → has_range e ≡ true → rows_fault e ≡ Some why → reason_among code taken e ≡ Some why
no_rows code taken e why has rows = ranged code taken e (Some why) (encloses code e.start (e.start + e.size)) (any_overlap (range_of e) taken) has rows refl refl

pub no_code : (code taken : List Range) (e : FdeFields) (end : ℕ) (why : Reason) → EndsAt e end → encloses code e.start end ≡ false → option_or (rows_fault e) (Some reason.Outside) ≡ Some why → reason_among code taken e ≡ Some why
no_code code taken e end why ends place is = ranged code taken e (rows_fault e) false (any_overlap (range_of e) taken) ends.ranged refl (ap (encloses code e.start) (sym ends.sum) ∙ place) refl ∙ is

pub at_end : (taken : List Range) (e : FdeFields) (end : ℕ) (meets : Bool) → EndsAt e end → any_overlap (record { start = e.start; end = end }) taken ≡ meets → any_overlap (range_of e) taken ≡ meets
at_end taken e end meets ends met = ap (λ (k : ℕ). any_overlap (record { start = e.start; end = k }) taken) (sym ends.sum) ∙ met

pub overlaps : (code taken : List Range) (e : FdeFields) (end : ℕ) (why : Reason) → EndsAt e end → encloses code e.start end ≡ true → any_overlap (record { start = e.start; end = end }) taken ≡ true → option_or (rows_fault e) (Some reason.Overlap) ≡ Some why → reason_among code taken e ≡ Some why
overlaps code taken e end why ends place met is = ranged code taken e (rows_fault e) true true ends.ranged refl (ap (encloses code e.start) (sym ends.sum) ∙ place) (at_end taken e end true ends met) ∙ is

pub no_reason : (code taken : List Range) (e : FdeFields) (end : ℕ) → EndsAt e end → rows_fault e ≡ None → encloses code e.start end ≡ true → any_overlap (record { start = e.start; end = end }) taken ≡ false → reason_among code taken e ≡ None
no_reason code taken e end ends rows place met = ranged code taken e None true false ends.ranged rows (ap (encloses code e.start) (sym ends.sum) ∙ place) (at_end taken e end false ends met)

-- Whether an entry has a range of addresses, given its start and size.
pub is_empty : (e : FdeFields) → e.size ≡ 0 → has_range e ≡ false
unfolding has_range
is_empty e none = ap (λ n. nat_lt 0 n && nat_lt (e.start + n) (2 ^ 64)) none

pub leaves : (e : FdeFields) → 2 ^ 64 ≤ e.start + e.size → has_range e ≡ false
unfolding has_range
leaves e past = and_right (nat_lt 0 e.size) (nat_lt (e.start + e.size) (2 ^ 64)) (le-ltb (e.start + e.size) (2 ^ 64) past)

pub ends_at : (e : FdeFields) (end : ℕ) → 0 < e.size → end ≡ e.start + e.size → end < 2 ^ 64 → EndsAt e end
unfolding has_range
ends_at e end some sum fits = record {
  ranged = and_from (nat_lt 0 e.size) (nat_lt (e.start + e.size) (2 ^ 64)) (lt-ltb 0 e.size some) (lt-ltb (e.start + e.size) (2 ^ 64) (omega (arith, sum, fits)));
  some = some;
  sum = sum;
  fits = fits;
}
