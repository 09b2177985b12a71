-- What holds of the ranges of a set that is being made, and of those in an `Enclosing`. No public
-- contract cites these definitions.
use Rattle.std.specs.Prelude.{◌≡◌, ℕ, ◌<◌, ◌≤◌, max, List, [], ◌∷◌, Option, None, Some}
use Rattle.sym_edges.specs.Addresses.{Range}
use Rattle.range_set.specs.Canonical.{IsCanonical}
use Rattle.range_set.specs.Starts.{AllFrom}

-- the greatest start, or 0 if there is no range
abbrev pub last_start : List Range → ℕ
last_start [] = 0
last_start (range ∷ ranges) = max range.start (last_start ranges)

-- each range ends below the address
abbrev pub EndsBelow : ℕ → List Range → Type 0
EndsBelow a [] = Unit {0}
EndsBelow a (range ∷ ranges) = (range.end < a) × EndsBelow a ranges

-- of a set that is being made: the ranges that are done, and the last range, which may still grow;
-- the done ones are canonical and end below the start of the last one
abbrev pub IsBuilt : List Range → Option Range → Type 0
IsBuilt done None = done ≡ []
IsBuilt done (Some last) = (last.start < last.end) × EndsBelow last.start done × IsCanonical done

-- each range starts at or below the starts of those after it
abbrev pub AreAscending : List Range → Type 0
AreAscending [] = Unit {0}
AreAscending (range ∷ ranges) = AllFrom range.start ranges × AreAscending ranges

-- each range of the first list starts at or below the start of each range of the second
abbrev pub StartsBefore : List Range → List Range → Type 0
StartsBefore xs ys = AllFrom (last_start xs) ys

-- each range ends at or above the address
abbrev pub AllReach : ℕ → List Range → Type 0
AllReach a [] = Unit {0}
AllReach a (range ∷ ranges) = (a ≤ range.end) × AllReach a ranges

-- neither the starts nor the ends of the ranges descend
abbrev pub AreRising : List Range → Type 0
AreRising [] = Unit {0}
AreRising (range ∷ ranges) = AllFrom range.start ranges × AllReach range.end ranges × AreRising ranges
