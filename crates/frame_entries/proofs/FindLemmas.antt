-- Lemmas about the search among CIEs whose places rise, for `count_before` and `find_cie`.
use Rattle.std.proofs.Common.{◌≡◌, ◌<◌, ℕ, zero, suc, Bool, true, false, eqb, List, [], ◌∷◌, length, get_or, None, Some, refl, sym, ◌∙◌, arith}
use Rattle.std.specs.List.{find}
use Rattle.std.proofs.lemmas.Bool.{cond-true, cond-false, eq-eqb}
use Rattle.sym_edges.specs.Rising.{RisesFrom, StandBelow}
use Rattle.sym_edges.proofs.RisingLemmas.{differ_below, differ_all, differ_other}
use Rattle.frame_entries.specs.declared.cie.Cie.{Cie}
use Rattle.frame_entries.specs.internal.CiePlaces.{places_of}
use Rattle.frame_entries.specs.FrameEntries.{cie_from}

-- The search finds the first element that passes the test, and nothing if none passes.
find_at : {X : Type 0} (test : X → Bool) (xs : List X) (k : ℕ) (d : X) → k < length xs → ((j : ℕ) → j < k → test (get_or xs j d) ≡ false) → test (get_or xs k d) ≡ true → find test xs ≡ Some (get_or xs k d)
find_at test [] k d there before passes = absurd (omega arith)
find_at test (x ∷ xs) zero d there before passes = cond-true _ _ _ passes
find_at test (x ∷ xs) (suc k) d there before passes =
    cond-false _ _ _ (before 0 (omega arith))
    ∙ find_at test xs k d (omega arith) (λ j below. before (suc j) (omega arith)) passes

find_nowhere : {X : Type 0} (test : X → Bool) (xs : List X) → ((j : ℕ) (d : X) → j < length xs → test (get_or xs j d) ≡ false) → find test xs ≡ None
find_nowhere test [] fails = refl
find_nowhere test (x ∷ xs) fails =
    cond-false _ _ _ (fails 0 x (omega arith)) ∙ find_nowhere test xs (λ j d below. fails (suc j) d (omega arith))

pub cie_found : (place count : ℕ) (cies : List Cie) (d : Cie) → StandBelow (λ (c : Cie). c.at) place count cies → count < length cies → (get_or cies count d).at ≡ place → cie_from cies place ≡ Some (get_or cies count d)
unfolding cie_from
cie_found place count cies d h there same =
    find_at (λ c. eqb c.at place) cies count d there (λ j under. differ_below (λ (c : Cie). c.at) place count cies h j d under) (eq-eqb _ _ same)

pub cie_other : (place count : ℕ) (cies : List Cie) (d : Cie) → RisesFrom 0 (places_of cies) → StandBelow (λ (c : Cie). c.at) place count cies → count < length cies → ((get_or cies count d).at ≡ place → ⊥) → None ≡ cie_from cies place
unfolding cie_from
cie_other place count cies d rises h there other =
    sym (find_nowhere (λ c. eqb c.at place) cies (differ_other (λ (c : Cie). c.at) place count cies d rises h there other))

pub cie_none : (place count : ℕ) (cies : List Cie) → StandBelow (λ (c : Cie). c.at) place count cies → count ≡ length cies → None ≡ cie_from cies place
unfolding cie_from
cie_none place count cies h whole = sym (find_nowhere (λ c. eqb c.at place) cies (differ_all (λ (c : Cie). c.at) place count cies h whole))
