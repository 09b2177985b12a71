use Rattle.std.proofs.Common.{◌≡◌, ℕ, ◌≤◌, List, [], ◌∷◌, Option, None, Some, arith, refl, sym, ap, ◌∙◌, inl, inr}
use Rattle.std.proofs.lemmas.Bool.Decides.{leb_tells}
use Rattle.step_maps.specs.Runs.{Run, value_in, AreRuns, IsRuns}
use Rattle.step_maps.proofs.RunLemmas.{first_value, rest_above, none_after, none_below, at_end}

-- A list of runs that has no value at any address is empty.
none_alike : {V : Type 0} (x : Run V) (xs : List (Run V)) → AreRuns (x ∷ xs) → ((a : ℕ) → value_in (x ∷ xs) a ≡ None) → ⊥
none_alike x xs p none =
    let held : value_in (x ∷ xs) x.start ≡ Some x.value = first_value x xs x.start (omega arith) (omega arith) in
    let not : value_in (x ∷ xs) x.start ≡ None = none x.start in
    cc

-- Of two lists of runs with the same values, the second does not start above the start of the
-- first.
starts_alike : {V : Type 0} (x y : Run V) (xs ys : List (Run V)) → AreRuns (x ∷ xs) → AreRuns (y ∷ ys) → ((a : ℕ) → value_in (x ∷ xs) a ≡ value_in (y ∷ ys) a) → y.start ≤ x.start
starts_alike x y xs ys p q same = elim (leb_tells y.start x.start) [
  | inl low ↦ low.1
  | inr high ↦
      let held : value_in (x ∷ xs) x.start ≡ Some x.value = first_value x xs x.start (omega arith) (omega arith) in
      let not : value_in (y ∷ ys) x.start ≡ None = none_below y ys x.start q high.1 in
      let alike : value_in (x ∷ xs) x.start ≡ value_in (y ∷ ys) x.start = same x.start in
      cc
]

values_alike : {V : Type 0} (x y : Run V) (xs ys : List (Run V)) → AreRuns (x ∷ xs) → AreRuns (y ∷ ys) → x.start ≡ y.start → ((a : ℕ) → value_in (x ∷ xs) a ≡ value_in (y ∷ ys) a) → x.value ≡ y.value
values_alike x y xs ys p q start same =
    let left : value_in (x ∷ xs) x.start ≡ Some x.value = first_value x xs x.start (omega arith) (omega arith) in
    let right : value_in (y ∷ ys) x.start ≡ Some y.value = first_value y ys x.start (omega arith) (omega (arith, q.0, start)) in
    let alike : value_in (x ∷ xs) x.start ≡ value_in (y ∷ ys) x.start = same x.start in
    cc

-- If both start alike, the first run of the second does not end above the end of the other.
ends_alike : {V : Type 0} (x y : Run V) (xs ys : List (Run V)) → AreRuns (x ∷ xs) → AreRuns (y ∷ ys) → x.start ≡ y.start → x.value ≡ y.value → ((a : ℕ) → value_in (x ∷ xs) a ≡ value_in (y ∷ ys) a) → y.end ≤ x.end
ends_alike x y xs ys p q start value same = elim (leb_tells y.end x.end) [
  | inl low ↦ low.1
  | inr high ↦
      let held : value_in (y ∷ ys) x.end ≡ Some y.value = first_value y ys x.end (omega (arith, p.0, start)) high.1 in
      let alike : value_in (x ∷ xs) x.end ≡ value_in (y ∷ ys) x.end = same x.end in
      absurd (at_end x xs p (cc))
]

-- What follows the same first run has the same values.
rest_alike : {V : Type 0} (x y : Run V) (xs ys : List (Run V)) → AreRuns (x ∷ xs) → AreRuns (y ∷ ys) → x.end ≡ y.end → ((a : ℕ) → value_in (x ∷ xs) a ≡ value_in (y ∷ ys) a) → (a : ℕ) → value_in xs a ≡ value_in ys a
rest_alike x y xs ys p q end same a = elim (leb_tells x.end a) [
  | inl high ↦ sym (rest_above x xs a high.1) ∙ same a ∙ rest_above y ys a (omega arith)
  | inr low ↦ none_after x xs a p.1 p.2 (omega arith) ∙ sym (none_after y ys a q.1 q.2 (omega arith))
]

run_alike : {V : Type 0} (x y : Run V) → x.start ≡ y.start → x.end ≡ y.end → x.value ≡ y.value → x ≡ y
run_alike {V} x y start end value =
    let from : ℕ → Run V = λ n. record { start = n; end = x.end; value = x.value } in
    let to : ℕ → Run V = λ n. record { start = y.start; end = n; value = x.value } in
    let with : V → Run V = λ v. record { start = y.start; end = y.end; value = v } in
    ap from start ∙ ap to end ∙ ap with value

-- Two lists of runs with the same values are equal.
pub one_list : {V : Type 0} (xs ys : List (Run V)) → AreRuns xs → AreRuns ys → ((a : ℕ) → value_in xs a ≡ value_in ys a) → xs ≡ ys
one_list [] [] p q same = refl
one_list [] (y ∷ ys) p q same = absurd (none_alike y ys q (λ a. sym (same a)))
one_list (x ∷ xs) [] p q same = absurd (none_alike x xs p same)
one_list (x ∷ xs) (y ∷ ys) p q same =
    let back : (a : ℕ) → value_in (y ∷ ys) a ≡ value_in (x ∷ xs) a = λ a. sym (same a) in
    let start : x.start ≡ y.start = omega (arith, starts_alike x y xs ys p q same, starts_alike y x ys xs q p back) in
    let value : x.value ≡ y.value = values_alike x y xs ys p q start same in
    let end : x.end ≡ y.end = omega (arith, ends_alike x y xs ys p q start value same, ends_alike y x ys xs q p (sym start) (sym value) back) in
    ap (λ r. r ∷ xs) (run_alike x y start end value) ∙ ap (λ l. y ∷ l) (one_list xs ys p.2 q.2 (rest_alike x y xs ys p q end same))

-- A function has only one list of runs.
pub one_runs : {V : Type 0} (f : ℕ → Option V) (xs ys : List (Run V)) → IsRuns f xs → IsRuns f ys → xs ≡ ys
one_runs f xs ys p q = one_list xs ys p.apart q.apart (λ a. p.values a ∙ sym (q.values a))
