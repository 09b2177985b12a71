-- FILE and INLINE_ORIGIN records by their numbers (for `numbers_of`, `numbered_file` and
-- `numbered_origin`).
use Rattle.std.proofs.Common.{◌≡◌, ℕ, ◌+◌, ◌<◌, ◌≤◌, ◌==◌, nat_le, nat_lt, Bool, cond, true, false, List, [], ◌∷◌, length, Option, Some, None, refl, sym, ◌∙◌, ap, inl, inr, arith, slice_get}
use Rattle.std.specs.List.{find, position, position_from, position_or_len}
use Rattle.std.specs.Option.{option_and_then}
use Rattle.std.proofs.lemmas.Bool.{cases_order, le-leb, lt-leb, le-ltb, eq-eqb, ne_eqb}
use Rattle.std.proofs.lemmas.Bool.Decides.{nat_tests}
use Rattle.std.proofs.lemmas.Iterator.Adapters.{position_from-zero}
use Rattle.std.proofs.lemmas.List.Folds.{find_at}
use Rattle.std.proofs.lemmas.Option.{slice_get_past}
use Rattle.sym_records.specs.declared.line.SymLine.{SymLine}
use Rattle.sym_records.specs.declared.line.SymLine.TheVariants.{File, Origin}
use Rattle.sym_meaning.specs.TextNames.{is_file, is_origin}
use Rattle.sym_lookup.specs.declared.marks.Mark.{Mark}
use Rattle.sym_lookup.specs.declared.marks.Marked.TheVariants as marked
use Rattle.sym_lookup.specs.internal.Marks.{marks_of}
use Rattle.sym_lookup.specs.NearestMarks.{nearer_mark, mark_at, numbered}
use Rattle.sym_lookup.proofs.MarkLemmas.{IsUpTo, bounded}

-- One more record with a number, before others.
abbrev one : ℕ → ℕ → Mark
one number place = record { key = number; place = place }

equal_step : (x place : ℕ) (later : Option Mark) → IsUpTo x later → numbered x (nearer_mark (Some (one x place)) later) ≡ Some place
equal_step x place None up = ap (λ b. cond b (Some place) None) (eq-eqb x x refl)
equal_step x place (Some t) up = ap (λ b. numbered x (cond b (Some t) (Some (one x place)))) (le-ltb x t.key up) ∙ ap (λ b. cond b (Some place) None) (eq-eqb x x refl)

other_place : (x : ℕ) (m : Mark) → (m.key ≡ x → ⊥) → numbered x (Some m) ≡ None
other_place x m other = ap (λ b. cond b (Some m.place) None) (ne_eqb m.key x other)

less_step : (x number place : ℕ) (later : Option Mark) → number < x → numbered x (nearer_mark (Some (one number place)) later) ≡ numbered x later
less_step x number place None less = other_place x (one number place) (λ e. absurd (omega arith))
less_step x number place (Some t) less = by_test (nat_lt number t.key) refl
  where
    by_test : (b : Bool) → nat_lt number t.key ≡ b → numbered x (cond b (Some t) (Some (one number place))) ≡ numbered x (Some t)
    by_test true h = refl
    by_test false h =
        let low : t.key ≤ number = grind (arith, nat_tests) in
        other_place x (one number place) (λ e. absurd (omega arith)) ∙ sym (other_place x t (λ e. absurd (omega arith)))

step : (x number place : ℕ) (later : Option Mark) → IsUpTo x later → numbered x (nearer_mark (cond (nat_le number x) (Some (one number place)) None) later) ≡ cond (number == x) (Some place) (numbered x later)
step x number place later up = elim (cases_order number x) [
  | inl same ↦
      ap (λ b. numbered x (nearer_mark (cond b (Some (one number place)) None) later)) (le-leb number x (omega arith))
      ∙ ap (λ n. numbered x (nearer_mark (Some (one n place)) later)) same
      ∙ equal_step x place later up
      ∙ sym (ap (λ b. cond b (Some place) (numbered x later)) (eq-eqb number x same))
  | inr (inl less) ↦
      ap (λ b. numbered x (nearer_mark (cond b (Some (one number place)) None) later)) (le-leb number x (omega arith))
      ∙ less_step x number place later less
      ∙ sym (ap (λ b. cond b (Some place) (numbered x later)) (ne_eqb number x (λ e. absurd (omega arith))))
  | inr (inr more) ↦
      ap (λ b. numbered x (nearer_mark (cond b (Some (one number place)) None) later)) (lt-leb number x more)
      ∙ sym (ap (λ b. cond b (Some place) (numbered x later)) (ne_eqb number x (λ e. absurd (omega arith))))
]

file_is : (n : ℕ) (lines : List SymLine) (x : ℕ) → numbered x (mark_at (marks_of marked.Files n lines) x) ≡ position_from (is_file x) n lines
unfolding mark_at
file_is n [] x = refl
file_is n (File number name ∷ lines) x =
    step x number n (mark_at (marks_of marked.Files (n + 1) lines) x) (bounded (marks_of marked.Files (n + 1) lines) x x (λ k d l h. h)) ∙ ap (λ o. cond (number == x) (Some n) o) (file_is (n + 1) lines x)
file_is n (_ ∷ lines) x = file_is (n + 1) lines x

origin_is : (n : ℕ) (lines : List SymLine) (x : ℕ) → numbered x (mark_at (marks_of marked.Origins n lines) x) ≡ position_from (is_origin x) n lines
unfolding mark_at
origin_is n [] x = refl
origin_is n (Origin number name ∷ lines) x =
    step x number n (mark_at (marks_of marked.Origins (n + 1) lines) x) (bounded (marks_of marked.Origins (n + 1) lines) x x (λ k d l h. h)) ∙ ap (λ o. cond (number == x) (Some n) o) (origin_is (n + 1) lines x)
origin_is n (_ ∷ lines) x = origin_is (n + 1) lines x

-- Marks that give the same as those of the records.
pub file_numbered : (lines : List SymLine) (files : List Mark) → ((x : ℕ) → mark_at files x ≡ mark_at (marks_of marked.Files 0 lines) x) → (x : ℕ) → numbered x (mark_at files x) ≡ position (is_file x) lines
file_numbered lines files same x = ap (numbered x) (same x) ∙ file_is 0 lines x ∙ sym (position_from-zero (is_file x) lines)

pub origin_numbered : (lines : List SymLine) (origins : List Mark) → ((x : ℕ) → mark_at origins x ≡ mark_at (marks_of marked.Origins 0 lines) x) → (x : ℕ) → numbered x (mark_at origins x) ≡ position (is_origin x) lines
origin_numbered lines origins same x = ap (numbered x) (same x) ∙ origin_is 0 lines x ∙ sym (position_from-zero (is_origin x) lines)

-- The record at the first place that passes a test is the first that passes it.
pub found_at : (p : SymLine → Bool) (lines : List SymLine) → option_and_then (slice_get lines) (position p lines) ≡ find p lines
found_at p lines = by_test (nat_lt (position_or_len p lines) (length lines)) refl
  where
    by_test : (b : Bool) → nat_lt (position_or_len p lines) (length lines) ≡ b → option_and_then (slice_get lines) (cond b (Some (position_or_len p lines)) None) ≡ find p lines
    by_test true h = sym (find_at p lines)
    by_test false h =
        let past : length lines ≤ position_or_len p lines = grind (arith, nat_tests) in
        sym (find_at p lines ∙ slice_get_past lines (position_or_len p lines) past)

pub found_by : (p : SymLine → Bool) (lines : List SymLine) (marks held : List Mark) (x : ℕ) (place : Option ℕ) (found : Option SymLine) → held ≡ marks → place ≡ numbered x (mark_at held x) → numbered x (mark_at marks x) ≡ position p lines → found ≡ option_and_then (slice_get lines) place → found ≡ find p lines
found_by p lines marks held x place found same at by is =
    is ∙ ap (option_and_then (slice_get lines)) (at ∙ ap (λ ms. numbered x (mark_at ms x)) same ∙ by) ∙ found_at p lines
