-- Address sets by number: entries that share a set have the same number.
use Rattle.std.specs.Prelude.{◌≡◌, ◌<◌, ℕ, List, [], ◌∷◌, length, get_or}
use Rattle.std.specs.List.{All}
use Rattle.sym_edges.specs.Addresses.{Range}
use Rattle.range_set.specs.Canonical.{IsCanonical}

-- the set with a number; empty if there is no such set
abbrev pub set_of : List (List Range) → ℕ → List Range
set_of sets number = get_or sets number []

-- the sets of the numbers, one for each number
abbrev pub sets_of : List (List Range) → List ℕ → List (List Range)
sets_of sets [] = []
sets_of sets (number ∷ numbers) = set_of sets number ∷ sets_of sets numbers

-- each number is that of a set, each set is canonical, and set 0 is empty
pub record AreNumbered (sets : List (List Range)) (numbers : List ℕ) : Type 0 where
  pub there : All (λ number. number < length sets) numbers
  pub canonical : All IsCanonical sets
  pub some : 0 < length sets
  pub empty : set_of sets 0 ≡ []
