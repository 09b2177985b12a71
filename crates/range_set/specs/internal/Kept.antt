-- The ranges of a set, in whichever form they are stored.
use Rattle.std.specs.Prelude.{List, [], ◌∷◌}
use Rattle.sym_edges.specs.Addresses.{Range}
use Rattle.range_set.specs.declared.set.Kept.{Kept}
use Rattle.range_set.specs.declared.set.Kept.TheVariants.{Empty, One, Many}

-- the ranges in order
abbrev pub kept_ranges : Kept → List Range
kept_ranges Empty = []
kept_ranges (One range) = range ∷ []
kept_ranges (Many ranges) = ranges.items
