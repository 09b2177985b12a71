-- The ranges of records, in the form in which the code stores them.
use Rattle.std.specs.Prelude.{◌≡◌, ℕ, ◌+◌, ◌<◌, ◌≤◌, ◌&&◌, Bool, false, nat_lt, List}
use Rattle.sym_records.specs.declared.line.Extent.{Extent}
use Rattle.sym_edges.specs.Addresses.{Range}
use Rattle.range_union.specs.Ranges.{any_overlap, range_to}

-- no range of the list overlaps one that begins at or above `top`
pub record EndBy (top : ℕ) (ranges : List Range) : Type 0 where
  pub none : (a b : ℕ) → top ≤ a → a < b → any_overlap (range_to a b) ranges ≡ false

-- the last ranges, stored as one; it is empty before the first record
pub record IsTail (start end top : ℕ) : Type 0 where
  pub ordered : start ≤ end
  pub some : 0 < end → start < end
  pub below : end ≤ top

-- whether a range overlaps one of a list, if it is not empty
unfoldable pub is_met : List Range → Extent → Bool
is_met ranges e = nat_lt 0 e.size && any_overlap (range_to e.address (e.address + e.size)) ranges
