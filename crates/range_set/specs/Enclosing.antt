-- Which ranges of addresses lie wholly in one range of a list.
use Rattle.std.specs.Prelude.{ℕ, ◌&&◌, Bool, nat_le, List}
use Rattle.std.specs.List.{list_any}
use Rattle.sym_edges.specs.Addresses.{Range}

-- one range of the list starts at or below `start` and ends at or above `end`
unfoldable pub encloses : List Range → ℕ → ℕ → Bool
encloses ranges start end = list_any (λ r. nat_le r.start start && nat_le end r.end) ranges
