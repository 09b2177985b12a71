-- Ranges of which no two overlap, as the entries of a map from starts to ends.
use Rattle.std.specs.Prelude.{◌≡◌, ℕ, ◌<◌, ◌≤◌, ◌||◌, true, nat_lt, if◌then◌else◌, List, [], ◌∷◌, length, map, Option, None, Some}
use Rattle.sym_edges.specs.Addresses.{Range}
use Rattle.range_union.specs.Ranges.{overlap, any_overlap, range_to}

-- the range of an entry, which is a start and an end
abbrev pub range_by : ℕ × ℕ → Range
range_by entry = range_to entry.0 entry.1

unfoldable pub ranges_by : List (ℕ × ℕ) → List Range
ranges_by entries = map range_by entries

-- the first range, if there is one, starts at or above the address
abbrev pub StartsFrom : ℕ → List (ℕ × ℕ) → Type 0
StartsFrom a [] = Unit {0}
StartsFrom a (entry ∷ entries) = a ≤ entry.0

-- no range is empty, and each ends at or below the start of the next
abbrev pub AreApart : List (ℕ × ℕ) → Type 0
AreApart [] = Unit {0}
AreApart (entry ∷ entries) = (entry.0 < entry.1) × StartsFrom entry.1 entries × AreApart entries

-- the last range that starts below an address
abbrev pub or_entry : Option (ℕ × ℕ) → Option (ℕ × ℕ) → Option (ℕ × ℕ)
or_entry None other = other
or_entry (Some entry) other = Some entry

unfoldable pub last_below : ℕ → List (ℕ × ℕ) → Option (ℕ × ℕ)
last_below below [] = None
last_below below (entry ∷ entries) = or_entry (last_below below entries) (if nat_lt entry.0 below then Some entry else None)

-- a range from `low` up to `high`, which overlaps the one from `start` up to `end`, was taken out of a list
pub record IsTaken (start end low high : ℕ) (old new : List (ℕ × ℕ)) : Type 0 where
  pub some : low < high
  pub overlaps : overlap (range_to start end) (range_to low high) ≡ true
  pub rest : (q : Range) → any_overlap q (ranges_by old) ≡ (any_overlap q (ranges_by new) || overlap q (range_to low high))
  pub fewer : length new < length old
