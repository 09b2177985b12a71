-- The canonical list of a set of addresses, of which there is only one.
use Rattle.std.specs.Prelude.{ℕ, ◌<◌, List, [], ◌∷◌}
use Rattle.sym_edges.specs.Addresses.{Range}

-- the first range, if there is one, begins above the address
abbrev pub BeginsAbove : ℕ → List Range → Type 0
BeginsAbove a [] = Unit {0}
BeginsAbove a (range ∷ ranges) = a < range.start

-- no range is empty, and each ends below the start of the next: sorted, disjoint and not touching
abbrev pub IsCanonical : List Range → Type 0
IsCanonical [] = Unit {0}
IsCanonical (range ∷ ranges) = (range.start < range.end) × BeginsAbove range.end ranges × IsCanonical ranges
