-- Line records that are ascending and disjoint.
use Rattle.std.proofs.Common.{◌≡◌, ◌+◌, ◌<◌, ◌≤◌, ◌&&◌, nat_le, nat_lt, ℕ, zero, suc, Bool, true, false, cond, List, [], ◌∷◌, length, get_or, drop, None, Some, refl, sym, ap, subst, ◌∙◌, inl, inr, arith, drop-cons}
use Rattle.std.specs.List.{position_from}
use Rattle.std.specs.List.Sorted.{IsNonDecreasingBy, IsPartitionPoint}
use Rattle.std.proofs.lemmas.Bool.{cases_lt}
use Rattle.std.proofs.lemmas.List.{get_or_default}
use Rattle.std.proofs.lemmas.Bool.Decides.{nat_tests}
use Rattle.sym_records.specs.declared.line.SymLine.{SymLine}
use Rattle.sym_records.specs.declared.line.SymLine.TheVariants.{Inline, Line}
use Rattle.sym_meaning.specs.TextNames.{is_line_at}
use Rattle.sym_lookup.specs.internal.Risings.{line_start, line_end, RisesTo, is_inline}
use Rattle.sym_lookup.specs.UnderOf.{AreRising}
use Rattle.sym_lookup.proofs.PlaceLemmas.{placed_more}

rising_cons : (low end : ℕ) (s : SymLine) (records : List SymLine) → RisesTo low s (Some end) → AreRising end records → AreRising low (s ∷ records)
rising_cons low end (Line address size line file) records h later = (h.0, subst (λ e. AreRising e records) h.1 later)
rising_cons low end s records h later = h

-- One more record.
pub rising_more : (low end at : ℕ) (records : List SymLine) (line : SymLine) → (AreRising low (drop at records) → AreRising 0 records) → line ≡ get_or records at line → at < length records → RisesTo low line (Some end) → AreRising end (drop (at + 1) records) → AreRising 0 records
rising_more low end at records line before is l h later =
    let cut : drop at records ≡ line ∷ drop (suc at) records = drop-cons records at line l ∙ ap (λ s. s ∷ drop (suc at) records) (sym is) in
    let one : at + 1 ≡ suc at = omega arith in
    before (subst (AreRising low) (sym cut) (rising_cons low end line (drop (suc at) records) h (subst (λ n. AreRising end (drop n records)) one later)))

none_left : (records : List SymLine) (low at : ℕ) → length records ≤ at → AreRising low (drop at records)
none_left [] low zero l = tt
none_left [] low (suc at) l = tt
none_left (s ∷ records) low zero l = absurd (omega arith)
none_left (s ∷ records) low (suc at) l = none_left records low at (omega arith)

pub rising_all : (records : List SymLine) (low at : ℕ) → (AreRising low (drop at records) → AreRising 0 records) → length records ≤ at → AreRising 0 records
rising_all records low at before l = before (none_left records low at l)

-- An INLINE is not a line record.
no_line : (x : ℕ) (s : SymLine) → is_inline s ≡ true → is_line_at x s ≡ false
no_line x (Inline level line file origin ranges) h = refl
no_line x (Line address size line file) h = cc
no_line x _ h = cc

pub skip_more : (at : ℕ) (records : List SymLine) (line : SymLine) → ((first x : ℕ) → position_from (is_line_at x) (first + at) (drop at records) ≡ position_from (is_line_at x) first records) → line ≡ get_or records at line → at < length records → is_inline line ≡ true
    → (first x : ℕ) → position_from (is_line_at x) (first + (at + 1)) (drop (at + 1) records) ≡ position_from (is_line_at x) first records
skip_more at records line before is l h first x = placed_more (is_line_at x) records first at line (before first x) is l (no_line x line h)

-- The starts and the ends of the records ascend.
from_low : (low : ℕ) (records : List SymLine) → AreRising low records → (k : ℕ) (d : SymLine) → k < length records → (low ≤ line_start (get_or records k d)) × (line_start (get_or records k d) ≤ line_end (get_or records k d))
from_low low [] rises k d l = absurd (omega arith)
from_low low (Line address size line file ∷ records) rises zero d l = (rises.0, omega arith)
from_low low (Line address size line file ∷ records) rises (suc k) d l =
    let later = from_low (address + size) records rises.1 k d (omega arith) in
    let one : address + size ≤ line_start (get_or records k d) = later.0 in
    let two : low ≤ address = rises.0 in
    (omega arith, later.1)
from_low low (s ∷ records) rises k d l = absurd rises

-- A later record begins at or after the end of an earlier one.
tail_rises : (low : ℕ) (s : SymLine) (records : List SymLine) → AreRising low (s ∷ records) → AreRising (line_end s) records
tail_rises low (Line address size line file) records rises = rises.1
tail_rises low s records rises = absurd rises

apart : (low : ℕ) (records : List SymLine) → AreRising low records → (i j : ℕ) (d : SymLine) → i < j → j < length records → line_end (get_or records i d) ≤ line_start (get_or records j d)
apart low [] rises i j d l h = absurd (omega arith)
apart low (s ∷ records) rises i zero d l h = absurd (omega arith)
apart low (s ∷ records) rises zero (suc j) d l h = (from_low (line_end s) records (tail_rises low s records rises) j d (omega arith)).0
apart low (s ∷ records) rises (suc i) (suc j) d l h = apart (line_end s) records (tail_rises low s records rises) i j d (omega arith) (omega arith)

pub ends_rise : (low : ℕ) (records : List SymLine) → AreRising low records → IsNonDecreasingBy line_end records
ends_rise low records rises i j d up h = elim (cases_lt i j) [
  | inl l ↦ (let one : line_end (get_or records i d) ≤ line_start (get_or records j d) = apart low records rises i j d l h in let two : line_start (get_or records j d) ≤ line_end (get_or records j d) = (from_low low records rises j d h).1 in omega arith)
  | inr le ↦ (let same : i ≡ j = omega arith in subst (λ n. line_end (get_or records i d) ≤ line_end (get_or records n d)) same (omega arith))
]

-- A record that ends at or below an address, or begins above it, does not cover it.
ended : (x : ℕ) (s : SymLine) → nat_le (line_end s) x ≡ true → is_line_at x s ≡ false
ended x (Line address size line file) h = past address size x h
  where
    past : (a s x : ℕ) → nat_le (a + s) x ≡ true → (nat_le a x && nat_lt x (a + s)) ≡ false
    past a s x h = grind (arith, nat_tests)
ended x _ h = refl

ahead : (x : ℕ) (s : SymLine) → x < line_start s → is_line_at x s ≡ false
ahead x (Line address size line file) h = above address size x h
  where
    above : (a s x : ℕ) → x < a → (nat_le a x && nat_lt x (a + s)) ≡ false
    above a s x h = grind (arith, nat_tests)
ahead x _ h = refl

pub first_at : (p : SymLine → Bool) (records : List SymLine) (first at : ℕ) (d : SymLine) → at < length records → p (get_or records at d) ≡ true → ((k : ℕ) → k < at → p (get_or records k d) ≡ false) → position_from p first records ≡ Some (first + at)
first_at p [] first at d l h none = absurd (omega arith)
first_at p (s ∷ records) first zero d l h none = let one : first ≡ first + 0 = omega arith in ap (λ b. cond b (Some first) (position_from p (first + 1) records)) h ∙ ap Some one
first_at p (s ∷ records) first (suc at) d l h none =
    let one : first + 1 + at ≡ first + suc at = omega arith in
    ap (λ b. cond b (Some first) (position_from p (first + 1) records)) (none 0 (omega arith)) ∙ first_at p records (first + 1) at d (omega arith) h (λ k l. none (suc k) (omega arith)) ∙ ap Some one

none_of : (p : SymLine → Bool) (records : List SymLine) (first : ℕ) → ((k : ℕ) (d : SymLine) → k < length records → p (get_or records k d) ≡ false) → position_from p first records ≡ None
none_of p [] first none = refl
none_of p (s ∷ records) first none = ap (λ b. cond b (Some first) (position_from p (first + 1) records)) (none 0 s (omega arith)) ∙ none_of p records (first + 1) (λ k d l. none (suc k) d (omega arith))

abbrev pub IsEnd : List SymLine → ℕ → ℕ → Type 0
IsEnd records x at = IsPartitionPoint (λ s. nat_le (line_end s) x ≡ true) (λ s. nat_le (line_end s) x ≡ false) records at

above_of : (a b : ℕ) → nat_le a b ≡ false → b < a
above_of a b h = grind (arith, nat_tests)

pub half_found : (records : List SymLine) (first x at : ℕ) (line : SymLine) → IsEnd records x at → line ≡ get_or records at line → at < length records → is_line_at x line ≡ true → Some (first + at) ≡ position_from (is_line_at x) first records
half_found records first x at line point is l h = sym (first_at (is_line_at x) records first at line l (ap (is_line_at x) (sym is) ∙ h) (λ k less. ended x (get_or records k line) (point.0 k line (omega arith) less)))

pub half_missed : (records : List SymLine) (first x at : ℕ) (line : SymLine) → AreRising 0 records → IsEnd records x at → line ≡ get_or records at line → at < length records → is_line_at x line ≡ false → None ≡ position_from (is_line_at x) first records
half_missed records first x at line rises point is l h = sym (none_of (is_line_at x) records first (λ k d m. elim (cases_lt k at) [
  | inl less ↦ ended x (get_or records k d) (point.0 k d (omega arith) less)
  | inr more ↦ by_order k d m more
]))
  where
    by_order : (k : ℕ) (d : SymLine) → k < length records → at ≤ k → is_line_at x (get_or records k d) ≡ false
    by_order k d m more = elim (cases_lt at k) [
      | inl behind ↦ (let one : x < line_end (get_or records at d) = above_of _ _ (point.1 at d (omega arith) l) in let two : line_end (get_or records at d) ≤ line_start (get_or records k d) = apart 0 records rises at k d behind m in ahead x (get_or records k d) (omega arith))
      | inr le ↦ (let same : k ≡ at = omega arith in ap (λ n. is_line_at x (get_or records n d)) same ∙ ap (is_line_at x) (get_or_default records at d line l) ∙ ap (is_line_at x) (sym is) ∙ h)
    ]

pub half_past : (records : List SymLine) (first x at : ℕ) → IsEnd records x at → length records ≤ at → None ≡ position_from (is_line_at x) first records
half_past records first x at point l = sym (none_of (is_line_at x) records first (λ k d m. ended x (get_or records k d) (point.0 k d (omega arith) (omega arith))))

abbrev pub SkipsTo : List SymLine → ℕ → Type 0
SkipsTo records at = (first x : ℕ) → position_from (is_line_at x) (first + at) (drop at records) ≡ position_from (is_line_at x) first records
