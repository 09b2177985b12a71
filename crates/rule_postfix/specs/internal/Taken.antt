-- How the ranges that are taken are held.
use Rattle.std.specs.Prelude.{◌≡◌, ℕ, ◌<◌, ◌≤◌, false, List, [], ◌∷◌, length, take, slice_index_or, Option, None, Some}
use Rattle.sym_edges.specs.Addresses.{Range}
use Rattle.range_union.specs.Ranges.{any_overlap}

-- no range of a list is empty, and each starts at or above the end of the range before it
abbrev pub AreRising : ℕ → List Range → Type 0
AreRising low [] = Unit {0}
AreRising low (r ∷ ranges) = (low ≤ r.start) × (r.start < r.end) × AreRising r.end ranges

-- each range ends at or below an address
abbrev pub EndBy : ℕ → List Range → Type 0
EndBy top [] = Unit {0}
EndBy top (r ∷ ranges) = (r.end ≤ top) × EndBy top ranges

-- a range overlaps one of `united` exactly if it overlaps one of `ranges`
pub record AreAlike (ranges united : List Range) : Type 0 where
  pub same : (q : Range) → any_overlap q united ≡ any_overlap q ranges

-- the ranges ascend or, if `united` is given, the same ranges overlap `united` as overlap them
abbrev pub AreFound : List Range → Option (List Range) → Type 0
AreFound ranges None = AreRising 0 ranges
AreFound ranges (Some united) = AreAlike ranges united

pub record AreTaken (ranges : List Range) (united : Option (List Range)) (top : ℕ) : Type 0 where
  pub found : AreFound ranges united
  pub by : EndBy top ranges
  pub apart : (k : ℕ) (d : Range) → k < length ranges → any_overlap (slice_index_or ranges k d) (take k ranges) ≡ false
