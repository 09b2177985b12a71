-- Ranges of addresses, and whether they have an address in common. Starts and ends are natural numbers.
use Rattle.std.specs.Prelude.{ℕ, ◌&&◌, Bool, nat_lt, List}
use Rattle.std.specs.List.{list_any}
use Rattle.sym_edges.specs.Addresses.{Range}

-- whether two ranges have an address in common, if neither is empty
abbrev pub overlap : Range → Range → Bool
overlap a b = nat_lt a.start b.end && nat_lt b.start a.end

-- whether some range of the list overlaps a range
unfoldable pub any_overlap : Range → List Range → Bool
any_overlap range ranges = list_any (overlap range) ranges

-- the range from a start up to an end, without the end
abbrev pub range_to : ℕ → ℕ → Range
range_to start end = record { start = start; end = end }
