use Rattle.std.proofs.Common.{◌≡◌, ◌≢◌, ℕ, ◌+◌, ◌≤◌, List, [], ◌∷◌, Option, None, Some, arith, sym, ◌∙◌, inl, inr}
use Rattle.std.proofs.lemmas.Bool.Decides.{leb_tells}
use Rattle.step_maps.specs.Runs.{Run, value_in, AreRuns, IsRuns, AreMaximal}
use Rattle.step_maps.proofs.RunLemmas.{first_value, rest_above, none_below, at_end}

-- The first run begins at or above `low`, and right below it the function has another value or
-- none.
abbrev StartsFrom : {V : Type 0} → ℕ → (ℕ → Option V) → List (Run V) → Type 0
StartsFrom low f [] = Unit {0}
StartsFrom low f (r ∷ runs) = (low ≤ r.start) × ((a : ℕ) → a + 1 ≡ r.start → f a ≢ Some r.value)

starts_next : {V : Type 0} (f : ℕ → Option V) (x : Run V) (xs : List (Run V)) (low : ℕ) → low ≤ x.start → AreRuns (x ∷ xs) → ((a : ℕ) → low ≤ a → value_in (x ∷ xs) a ≡ f a) → StartsFrom x.end f xs
starts_next f x [] low above p same = tt
starts_next f x (y ∷ ys) low above p same = (
  p.1.0,
  λ a next is. elim (leb_tells x.end a) [
    | inl high ↦
        let here : value_in (x ∷ y ∷ ys) a ≡ f a = same a (omega arith) in
        let past : value_in (x ∷ y ∷ ys) a ≡ value_in (y ∷ ys) a = rest_above x (y ∷ ys) a high.1 in
        let none : value_in (y ∷ ys) a ≡ None = none_below y ys a p.2 (omega arith) in
        cc
    | inr inside ↦
        let here : value_in (x ∷ y ∷ ys) a ≡ f a = same a (omega arith) in
        let first : value_in (x ∷ y ∷ ys) a ≡ Some x.value = first_value x (y ∷ ys) a (omega arith) inside.1 in
        let alike : Some x.value ≡ Some y.value = cc in
        p.1.1 (omega arith) (cc)
  ],
)

all_maximal : {V : Type 0} (f : ℕ → Option V) (xs : List (Run V)) → AreRuns xs → (low : ℕ) → ((a : ℕ) → low ≤ a → value_in xs a ≡ f a) → StartsFrom low f xs → AreMaximal f xs
all_maximal f [] p low same from = tt
all_maximal f (x ∷ xs) p low same from = (
  record {
    some = p.0;
    constant = λ a l h. sym (same a (omega arith)) ∙ first_value x xs a l h;
    ends = λ is. at_end x xs p (same x.end (omega arith) ∙ is);
    begins = from.1;
  },
  all_maximal f xs p.2 x.end (λ a high. sym (rest_above x xs a high) ∙ same a (omega arith)) (starts_next f x xs low from.0 p same),
)

starts_least : {V : Type 0} (f : ℕ → Option V) (xs : List (Run V)) → AreRuns xs → ((a : ℕ) → value_in xs a ≡ f a) → StartsFrom 0 f xs
starts_least f [] p same = tt
starts_least f (x ∷ xs) p same = (
  omega arith,
  λ a next is.
      let here : value_in (x ∷ xs) a ≡ f a = same a in
      let none : value_in (x ∷ xs) a ≡ None = none_below x xs a p (omega arith) in
      cc,
)

-- Each run of a function is maximal.
pub maximal : {V : Type 0} (f : ℕ → Option V) (xs : List (Run V)) → IsRuns f xs → AreMaximal f xs
maximal f xs is = all_maximal f xs is.apart 0 (λ a low. is.values a) (starts_least f xs is.apart is.values)
