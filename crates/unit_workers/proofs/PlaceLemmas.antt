-- Results at the places of their numbers.
use Rattle.std.proofs.Common.{◌≡◌, ℕ, ◌+◌, ◌<◌, ◌≢◌, ◌⊎◌, List, [], ◌∷◌, ◌++◌, length, get_or, set, replicate, Option, None, Some, IfSome, arith, refl, sym, ap, ◌∙◌, subst, inl, inr, ⊎_elim, length-set, get_or-set_same, get_or-set_other}
use Rattle.std.specs.Prelude.{IsSomeAnd}
use Rattle.std.specs.List.{All}
use Rattle.std.proofs.lemmas.Bool.Decides.{nat_tests}
use Rattle.std.proofs.lemmas.List.{get_or-replicate, length-replicate}
use Rattle.std.proofs.lemmas.List.Elements.{All-head, All-tail}
use mathlib.Core.Logic.{dite}
use native.Mathlib.Decide.{ℕ_discrete, dec_lt}
use Rattle.unit_workers.specs.Numbers.{times, one_if_same, HasEachBelow}
use Rattle.unit_workers.specs.Held.{Roll, Held, held}
use Rattle.unit_workers.specs.Working.{numbers, placed, IsResult, IsWorked, IsGathered, AreTaken}
use Rattle.unit_workers.proofs.NumberLemmas.{times-append, once_if_below}

pub length-placed : {A : Type 0} (slots : List (Option A)) (found : List (ℕ × A)) → length (placed slots found) ≡ length slots
length-placed slots [] = refl
length-placed slots (r ∷ rs) = length-set (placed slots rs) r.0 (Some r.1) ∙ length-placed slots rs

-- The last result is put into its place first.
pub placed_push : {A : Type 0} (slots : List (Option A)) (found : List (ℕ × A)) (r : ℕ × A) → placed slots (found ++ r ∷ []) ≡ placed (set slots r.0 (Some r.1)) found
placed_push slots [] r = refl
placed_push slots (x ∷ xs) r = ap (λ s. set s x.0 (Some x.1)) (placed_push slots xs r)

other_number : (k x : ℕ) → k ≢ x → one_if_same k x ≡ 0
other_number k x n = grind (arith, nat_tests)

module _ {A : Type 0} (gives : ℕ → A → Type 0) where
  -- What holds of a place after one more result was put in.
  one_placed : (P : Option A → Type 0) (slots : List (Option A)) (r : ℕ × A) (k : ℕ) (d : Option A) → k < length slots → (k ≡ r.0 → P (Some r.1)) → (k ≢ r.0 → P (get_or slots k d)) → P (get_or (set slots r.0 (Some r.1)) k d)
  one_placed P slots r k d near here apart =
      dite (ℕ_discrete k r.0)
      (λ e. subst P (sym (ap (λ i. get_or (set slots r.0 (Some r.1)) i d) e ∙ get_or-set_same slots r.0 (Some r.1) d (omega arith))) (here e))
      (λ n. subst P (sym (get_or-set_other slots r.0 k (Some r.1) d n)) (apart n))

  pub fits_placed : (slots : List (Option A)) (found : List (ℕ × A)) → All (IsResult gives (length slots)) found → ((k : ℕ) (d : Option A) → k < length slots → IfSome (get_or slots k d) (gives k))
      → (k : ℕ) (d : Option A) → k < length slots → IfSome (get_or (placed slots found) k d) (gives k)
  fits_placed slots [] each fits k d near = fits k d near
  fits_placed slots (r ∷ rs) each fits k d near =
      one_placed (λ o. IfSome o (gives k)) (placed slots rs) r k d (omega (arith, length-placed slots rs))
      (λ e. subst (λ i. gives i r.1) (sym e) (All-head (IsResult gives (length slots)) r rs each).1)
      (λ _. fits_placed slots rs (All-tail (IsResult gives (length slots)) r rs each) fits k d near)

  pub taken_placed : (slots : List (Option A)) (found : List (ℕ × A)) → All (IsResult gives (length slots)) found
      → (k : ℕ) (d : Option A) → k < length slots → IsSomeAnd (get_or slots k d) (gives k) ⊎ (0 < times k (numbers found)) → IsSomeAnd (get_or (placed slots found) k d) (gives k)
  taken_placed slots [] each k d near why = ⊎_elim (λ t. t) (λ (t : 0 < 0). absurd (omega arith)) why
  taken_placed slots (r ∷ rs) each k d near why =
      one_placed (λ o. IsSomeAnd o (gives k)) (placed slots rs) r k d (omega (arith, length-placed slots rs))
      (λ e. subst (λ i. gives i r.1) (sym e) (All-head (IsResult gives (length slots)) r rs each).1)
      (λ n. taken_placed slots rs (All-tail (IsResult gives (length slots)) r rs each) k d near (⊎_elim inl (λ (t : 0 < times k (r.0 ∷ numbers rs)). inr (omega (arith, other_number k r.0 n))) why))

  module _ (roll : Roll) where
    pub gathers_first : (hand : Held) (found : List (ℕ × A)) → IsWorked gives roll 0 hand found → IsGathered gives roll hand (placed (replicate roll.count None) found)
    gathers_first hand found w =
        let slots : List (Option A) = replicate roll.count None in
        let long : length slots ≡ roll.count = length-replicate roll.count None in
        let each : All (IsResult gives (length slots)) found = subst (λ n. All (IsResult gives n) found) (sym long) w.each in
        let empty : (k : ℕ) (d : Option A) → k < length slots → IfSome (get_or slots k d) (gives k) = λ k d near. subst (λ o. IfSome o (gives k)) (sym (get_or-replicate roll.count k None d (omega arith))) tt in
        record {
          of = ap (λ (h : Held). h.roll) w.holds;
          rights = ap (λ (h : Held). h.rights) w.holds;
          long = length-placed slots found ∙ long;
          fits = λ k d near. fits_placed slots found each empty k d (omega (arith, length-placed slots found));
          taken = λ k d near there. taken_placed slots found each k d (omega (arith, length-placed slots found)) (inr (subst (λ ks. 0 < times k ks) (ap (λ (h : Held). h.drawn) w.holds) there));
        }

    pub gathers_more : (hand other : Held) (slots : List (Option A)) (found : List (ℕ × A)) → IsGathered gives roll hand slots → IsWorked gives roll 0 other found
        → IsGathered gives roll (held roll (hand.drawn ++ other.drawn) (hand.rights + other.rights) (hand.share + other.share)) (placed slots found)
    gathers_more hand other slots found g w =
        let each : All (IsResult gives (length slots)) found = subst (λ n. All (IsResult gives n) found) (sym g.long) w.each in
        record {
          of = refl;
          rights = omega (arith, g.rights, ap (λ (h : Held). h.rights) w.holds);
          long = length-placed slots found ∙ g.long;
          fits = λ k d near. fits_placed slots found each g.fits k d (omega (arith, length-placed slots found));
          taken = λ k d near there.
              let near' : k < length slots = omega (arith, length-placed slots found) in
              taken_placed slots found each k d near'
              (dite (dec_lt 0 (times k hand.drawn)) (λ mine. inl (g.taken k d near' mine))
              (λ none. inr (omega (arith, times-append k hand.drawn other.drawn, ap (λ (h : Held). times k h.drawn) w.holds))));
        }

    pub gathers_all : (hand : Held) (slots : List (Option A)) → IsGathered gives roll hand slots → HasEachBelow roll.count hand.drawn → AreTaken gives 0 slots
    gathers_all hand slots g whole k d _ near =
        g.taken k d near (omega (arith, whole k, once_if_below roll.count k (omega (arith, g.long))))
