-- How often a number is in a list, and the lists that have each number below a bound once.
use Rattle.std.specs.Prelude.{◌≡◌, ℕ, ◌+◌, ◌==◌, List, [], ◌∷◌, cond, nat_lt}

-- the sum of the weights of the members
abbrev pub total : {A : Type 0} → (A → ℕ) → List A → ℕ
total weight [] = 0
total weight (x ∷ xs) = weight x + total weight xs

-- 1 if the two are the same number, otherwise 0
abbrev pub one_if_same : ℕ → ℕ → ℕ
one_if_same x y = cond (y == x) 1 0

-- how often x is in the list
abbrev pub times : ℕ → List ℕ → ℕ
times x xs = total (one_if_same x) xs

-- 1 if x is below the bound, otherwise 0
abbrev pub once_below : ℕ → ℕ → ℕ
once_below bound x = cond (nat_lt x bound) 1 0

-- each number below the bound is in the list exactly once, and no other number is
abbrev pub HasEachBelow : ℕ → List ℕ → Type 0
HasEachBelow bound xs = (x : ℕ) → times x xs ≡ once_below bound x
