-- Numbers that rise, and the place of a number among them.
use Rattle.std.specs.Prelude.{ℕ, ◌+◌, ◌<◌, ◌≤◌, List, [], ◌∷◌, length, slice_index_or}

-- each number is above the one before it, and the first is not below `low`
abbrev pub RisesFrom : ℕ → List ℕ → Type 0
RisesFrom low [] = Unit {0}
RisesFrom low (x ∷ xs) = (low ≤ x) × RisesFrom (x + 1) xs

-- the first `count` members of a list have numbers below `bound`, and no other member has
pub record StandBelow {X : Type 0} (number : X → ℕ) (bound count : ℕ) (xs : List X) : Type 0 where
  pub within : count ≤ length xs
  pub below : (k : ℕ) (d : X) → k < count → number (slice_index_or xs k d) < bound
  pub above : (k : ℕ) (d : X) → count ≤ k → k < length xs → bound ≤ number (slice_index_or xs k d)
