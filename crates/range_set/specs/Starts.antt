-- Where the ranges of a list start.
use Rattle.std.specs.Prelude.{ℕ, ◌≤◌, List, [], ◌∷◌}
use Rattle.sym_edges.specs.Addresses.{Range}

-- each range starts at or above the address
abbrev pub AllFrom : ℕ → List Range → Type 0
AllFrom a [] = Unit {0}
AllFrom a (range ∷ ranges) = (a ≤ range.start) × AllFrom a ranges
