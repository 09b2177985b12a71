use Rattle.std.proofs.Common.{◌≡◌, ◌≢◌, ℕ, ◌+◌, ◌<◌, ◌≤◌, ◌&&◌, true, false, cond, Some, None, List, [], ◌∷◌, length, drop, get_or, refl, sym, ◌∙◌, ap, arith}
use Rattle.std.proofs.lemmas.List.{at_drop_more}
use Rattle.std.proofs.lemmas.Grind.{common_steps}
use Rattle.sym_records.specs.Reading.{fits, leads}
use Rattle.sym_records.specs.Validity.{first_bad, first_bad_from, fields_fit}
use Rattle.sym_records.specs.declared.line.SymLine.{SymLine}
use Rattle.sym_records.specs.declared.place.Place.{Place}
use Rattle.sym_records.specs.declared.place.Place.TheVariants.{Start}

bad_here : (i : ℕ) (place : Place) (s : SymLine) (lines : List SymLine) → (fits place s && fields_fit s) ≡ false → first_bad_from i place (s ∷ lines) ≡ Some i
unfolding first_bad_from
bad_here i place s lines bad = ap (λ b. cond b (first_bad_from (i + 1) (leads place s) lines) (Some i)) bad

good_here : (i : ℕ) (place : Place) (s : SymLine) (lines : List SymLine) → (fits place s && fields_fit s) ≡ true → first_bad_from i place (s ∷ lines) ≡ first_bad_from (i + 1) (leads place s) lines
unfolding first_bad_from
good_here i place s lines good = ap (λ b. cond b (first_bad_from (i + 1) (leads place s) lines) (Some i)) good

-- The search for a bad record ends at one.
pub bad_at : (place : Place) (lines : List SymLine) (i : ℕ) (s : SymLine) → i < length lines → s ≡ get_or lines i s → (fits place s && fields_fit s) ≡ false → first_bad_from i place (drop i lines) ≡ Some i
bad_at place lines i s within is bad =
    at_drop_more (first_bad_from i place) lines i s within ∙ ap (λ x. first_bad_from i place (x ∷ drop (i + 1) lines)) (sym is) ∙ bad_here i place s (drop (i + 1) lines) bad

-- The search goes on after a good record.
pub good_at : (place : Place) (lines : List SymLine) (i : ℕ) (s : SymLine) → i < length lines → s ≡ get_or lines i s → (fits place s && fields_fit s) ≡ true → first_bad_from (i + 1) (leads place s) (drop (i + 1) lines) ≡ first_bad_from i place (drop i lines)
good_at place lines i s within is good =
    sym (at_drop_more (first_bad_from i place) lines i s within ∙ ap (λ x. first_bad_from i place (x ∷ drop (i + 1) lines)) (sym is) ∙ good_here i place s (drop (i + 1) lines) good)

none_left : (i : ℕ) (place : Place) → first_bad_from i place [] ≡ None
unfolding first_bad_from
none_left i place = refl

drop_past : {A : Type 0} (xs : List A) (i : ℕ) → length xs ≤ i → drop i xs ≡ []
drop_past xs i past = grind (arith, common_steps)

pub none_left_at : (place : Place) (lines : List SymLine) (i : ℕ) → length lines ≤ i → first_bad_from i place (drop i lines) ≡ None
none_left_at place lines i past = ap (first_bad_from i place) (drop_past lines i past) ∙ none_left i place

pub first_bad_of_none : (lines : List SymLine) → length lines ≡ 0 → first_bad lines ≡ Some 0
unfolding first_bad
first_bad_of_none [] none = refl
first_bad_of_none (s ∷ lines) none = absurd (omega arith)

pub first_bad_of_some : (lines : List SymLine) → length lines ≢ 0 → first_bad lines ≡ first_bad_from 0 Start lines
unfolding first_bad
first_bad_of_some [] some = absurd (some refl)
first_bad_of_some (s ∷ lines) some = refl
