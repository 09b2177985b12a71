-- How often numbers are in lists.
use Rattle.std.proofs.Common.{◌≡◌, ℕ, ◌+◌, ◌<◌, ◌≤◌, max, List, [], ◌∷◌, ◌++◌, arith}
use Rattle.std.specs.List.{All}
use Rattle.std.proofs.lemmas.Bool.Decides.{nat_tests}
use Rattle.std.proofs.lemmas.List.Elements.{All-nil, All-cons, All-head, All-tail}
use Rattle.unit_workers.specs.Numbers.{one_if_same, times, once_below}
use Rattle.unit_workers.proofs.SumLemmas.{total-append}

pub times-append : (x : ℕ) (xs ys : List ℕ) → times x (xs ++ ys) ≡ times x xs + times x ys
times-append x xs ys = total-append (one_if_same x) xs ys

pub times_push : (x : ℕ) (xs : List ℕ) (k : ℕ) → times x (xs ++ k ∷ []) ≡ times x xs + one_if_same x k
times_push x xs k = omega (arith, times-append x xs (k ∷ []))

pub once_below_more : (k x : ℕ) → once_below (k + 1) x ≡ once_below k x + one_if_same x k
once_below_more k x = grind (arith, nat_tests)

pub below_if_once : (n x : ℕ) → 0 < once_below n x → x < n
below_if_once n x h = grind (arith, nat_tests)

pub once_if_below : (n x : ℕ) → x < n → once_below n x ≡ 1
once_if_below n x h = grind (arith, nat_tests)

same_once : (x : ℕ) → one_if_same x x ≡ 1
same_once x = grind (arith, nat_tests)

-- If each number that is in a list is below a bound, all members are.
pub all_below : (n : ℕ) (xs : List ℕ) → ((x : ℕ) → 0 < times x xs → x < n) → All (λ x. x < n) xs
all_below n [] h = All-nil (λ x. x < n)
all_below n (y ∷ ys) h =
    All-cons (λ x. x < n) y ys (h y (omega (arith, same_once y))) (all_below n ys (λ x there. h x (omega arith)))

-- One more than the greatest number, or 0 for no number.
abbrev pub ceiling : List ℕ → ℕ
ceiling [] = 0
ceiling (x ∷ xs) = max (x + 1) (ceiling xs)

pub ceiling_push : (xs : List ℕ) (k : ℕ) → ceiling (xs ++ k ∷ []) ≡ max (ceiling xs) (k + 1)
ceiling_push [] k = omega arith
ceiling_push (x ∷ xs) k = omega (arith, ceiling_push xs k)

pub ceiling_le : (n : ℕ) (xs : List ℕ) → All (λ x. x < n) xs → ceiling xs ≤ n
ceiling_le n [] h = omega arith
ceiling_le n (x ∷ xs) h =
    let first : x < n = All-head (λ y. y < n) x xs h in
    omega (arith, ceiling_le n xs (All-tail (λ y. y < n) x xs h))
