-- A list has no bad record exactly if it is valid.
use Rattle.std.proofs.Common.{◌≡◌, ℕ, ◌+◌, ◌-◌, ◌≤◌, ◌&&◌, cond, zero, suc, List, [], ◌∷◌, Some, None, refl, ◌∙◌, ap, arith, subst}
use Rattle.sym_rules.proofs.BoolLemmas.{and_true, both, elim_bool, false_true}
use Rattle.sym_records.proofs.RecordSoundLemmas.{fits_valid, valid_fits}
use Rattle.sym_records.specs.Reading.{fits, leads}
use Rattle.sym_records.specs.Validity.{AreValidFrom, AreValid, IsFirstBadFrom, IsFirstBad, fields_fit, first_bad_from, first_bad}
use Rattle.sym_records.specs.declared.line.SymLine.{SymLine}
use Rattle.sym_records.specs.declared.place.Place.{Place}
use Rattle.sym_records.specs.declared.place.Place.TheVariants.{Start}

-- If no record is bad, all are valid.
none_from : (i : ℕ) (place : Place) (lines : List SymLine) → first_bad_from i place lines ≡ None → AreValidFrom place lines
unfolding first_bad_from
none_from i place [] none = tt
none_from i place (s ∷ lines) none =
    elim_bool (fits place s && fields_fit s) (λ t. (fits place s && fields_fit s) ≡ t → cond t (first_bad_from (i + 1) (leads place s) lines) (Some i) ≡ None → AreValidFrom place (s ∷ lines))
    (λ _ good h. ((fits_valid s (and_true good).1, (and_true good).0), none_from (i + 1) (leads place s) lines h))
    (λ _ _ h. cc)
    refl none

pub none_valid : (lines : List SymLine) → first_bad lines ≡ None → AreValid lines
unfolding first_bad
none_valid [] none = cc
none_valid (s ∷ lines) none = none_from 0 Start (s ∷ lines) none

valid_from : (i : ℕ) (place : Place) (lines : List SymLine) → AreValidFrom place lines → first_bad_from i place lines ≡ None
unfolding first_bad_from
valid_from i place [] valid = refl
valid_from i place (s ∷ lines) valid =
    ap (λ t. cond t (first_bad_from (i + 1) (leads place s) lines) (Some i)) (both valid.0.1 (valid_fits s valid.0.0)) ∙ valid_from (i + 1) (leads place s) lines valid.1

-- If all records are valid, no record is bad.
pub valid_none : (lines : List SymLine) → AreValid lines → first_bad lines ≡ None
unfolding first_bad
valid_none [] valid = absurd valid
valid_none (s ∷ lines) valid = valid_from 0 Start (s ∷ lines) valid

-- The record that is found is the first bad one.
some_from : (i k : ℕ) (place : Place) (lines : List SymLine) → first_bad_from i place lines ≡ Some k → (i ≤ k) × IsFirstBadFrom place lines (k - i)
unfolding first_bad_from
some_from i k place [] some = cc
some_from i k place (s ∷ lines) some =
    elim_bool (fits place s && fields_fit s) (λ t. (fits place s && fields_fit s) ≡ t → cond t (first_bad_from (i + 1) (leads place s) lines) (Some i) ≡ Some k → (i ≤ k) × IsFirstBadFrom place (s ∷ lines) (k - i))
    (λ _ good h.
    let rest = some_from (i + 1) k (leads place s) lines h in
    let step : suc (k - (i + 1)) ≡ k - i = omega (arith, rest.0) in
    (omega (arith, rest.0), subst (λ (d : ℕ). IsFirstBadFrom place (s ∷ lines) d) step ((fits_valid s (and_true good).1, (and_true good).0), rest.1)))
    (λ _ bad h.
    let same : i ≡ k = cc in
    let here : zero ≡ k - i = omega arith in
    (omega arith, subst (λ (d : ℕ). IsFirstBadFrom place (s ∷ lines) d) here (λ stands. false_true bad (both stands.1 (valid_fits s stands.0)))))
    refl some

pub some_first : (lines : List SymLine) (k : ℕ) → first_bad lines ≡ Some k → IsFirstBad lines k
unfolding first_bad
some_first [] k some = cc
some_first (s ∷ lines) k some =
    let all : k - 0 ≡ k = omega arith in
    subst (λ (d : ℕ). IsFirstBadFrom Start (s ∷ lines) d) all (some_from 0 k Start (s ∷ lines) some).1
