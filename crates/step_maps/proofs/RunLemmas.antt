use Rattle.std.proofs.Common.{◌≡◌, ℕ, ◌<◌, ◌≤◌, Bool, true, false, if◌then◌else◌, List, [], ◌∷◌, None, Some, arith, refl, ap, ◌∙◌, inl, inr}
use Rattle.std.proofs.lemmas.Bool.Decides.{nat_tests, leb_tells}
use Rattle.step_maps.specs.Runs.{Run, has, value_in, AreRuns, Follows}

-- An if whose test is known.
pub if_true : {V : Type 0} (b : Bool) (x y : V) → b ≡ true → (if b then x else y) ≡ x
if_true b x y is = ap (λ t. if t then x else y) is

pub if_false : {V : Type 0} (b : Bool) (x y : V) → b ≡ false → (if b then x else y) ≡ y
if_false b x y is = ap (λ t. if t then x else y) is

pub has_within : {V : Type 0} (r : Run V) (a : ℕ) → r.start ≤ a → a < r.end → has r a ≡ true
has_within r a low high = grind (arith, nat_tests)

pub has_below : {V : Type 0} (r : Run V) (a : ℕ) → a < r.start → has r a ≡ false
has_below r a low = grind (arith, nat_tests)

pub has_above : {V : Type 0} (r : Run V) (a : ℕ) → r.end ≤ a → has r a ≡ false
has_above r a high = grind (arith, nat_tests)

pub first_value : {V : Type 0} (r : Run V) (runs : List (Run V)) (a : ℕ) → r.start ≤ a → a < r.end → value_in (r ∷ runs) a ≡ Some r.value
first_value r runs a low high = if_true (has r a) (Some r.value) (value_in runs a) (has_within r a low high)

pub rest_below : {V : Type 0} (r : Run V) (runs : List (Run V)) (a : ℕ) → a < r.start → value_in (r ∷ runs) a ≡ value_in runs a
rest_below r runs a low = if_false (has r a) (Some r.value) (value_in runs a) (has_below r a low)

pub rest_above : {V : Type 0} (r : Run V) (runs : List (Run V)) (a : ℕ) → r.end ≤ a → value_in (r ∷ runs) a ≡ value_in runs a
rest_above r runs a high = if_false (has r a) (Some r.value) (value_in runs a) (has_above r a high)

pub none_after : {V : Type 0} (r : Run V) (runs : List (Run V)) (a : ℕ) → Follows r runs → AreRuns runs → a < r.end → value_in runs a ≡ None
none_after r [] a follows apart low = refl
none_after r (s ∷ runs) a follows apart low = rest_below s runs a (omega arith) ∙ none_after s runs a apart.1 apart.2 (omega arith)

-- Below the first run there is no value.
pub none_below : {V : Type 0} (r : Run V) (runs : List (Run V)) (a : ℕ) → AreRuns (r ∷ runs) → a < r.start → value_in (r ∷ runs) a ≡ None
none_below r runs a apart low = rest_below r runs a low ∙ none_after r runs a apart.1 apart.2 (omega arith)

pub at_end : {V : Type 0} (r : Run V) (runs : List (Run V)) → AreRuns (r ∷ runs) → value_in (r ∷ runs) r.end ≡ Some r.value → ⊥
at_end r [] apart is = (let none : value_in (r ∷ []) r.end ≡ None = rest_above r [] r.end (omega arith) in cc)
at_end r (s ∷ runs) apart is =
    let after : value_in (r ∷ s ∷ runs) r.end ≡ value_in (s ∷ runs) r.end = rest_above r (s ∷ runs) r.end (omega arith) in
    elim (leb_tells s.start r.end) [
      | inl low ↦
          let touch : r.end ≡ s.start = omega (arith, low.1) in
          let value : value_in (s ∷ runs) r.end ≡ Some s.value = first_value s runs r.end (omega arith) (omega arith) in
          apart.1.1 touch (some_alike _ _ (cc))
      | inr high ↦ (let none : value_in (s ∷ runs) r.end ≡ None = none_below s runs r.end apart.2 high.1 in cc)
    ]
  where
    some_alike : {V : Type 0} (x y : V) → Some x ≡ Some y → x ≡ y
    some_alike x y is = cc
