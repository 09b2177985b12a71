-- How the lines of a table are painted.
use Rattle.std.specs.Prelude.{ℕ, ◌+◌, ◌≤◌, ◌&&◌, min, nat_le, Bool, if◌then◌else◌, List, [], ◌∷◌, Option, Some, None}
use Rattle.std.specs.List.{slice_get}
use Rattle.step_maps.specs.declared.stretch.Stretch.{Stretch}
use Rattle.step_maps.specs.declared.stretch.FirstItem.{FirstItem}
use Rattle.line_program.specs.declared.row.Row.{Row}

-- a sequence that counts: the first and the last address that it covers, and its rows in the order
-- of their addresses
pub record Counted : Type 0 where
  pub first : ℕ
  pub last : ℕ
  pub rows : List Row

abbrev pub has : Counted → ℕ → Bool
has k a = nat_le k.first a && nat_le a k.last

-- the addresses of counted sequences, as stretches with consecutive indices
abbrev pub stretches_from : ℕ → List Counted → List Stretch
stretches_from number [] = []
stretches_from number (k ∷ kept) =
    record { first = k.first; last = k.last; index = number; class = 0 } ∷ stretches_from (number + 1) kept

-- rows in the order of their addresses, none of them below the address `low`
abbrev pub SortedFrom : ℕ → List Row → Type 0
SortedFrom low [] = Unit {0}
SortedFrom low (r ∷ rows) = (low ≤ r.address) × SortedFrom r.address rows

-- no row is above the address `high`
abbrev pub AllUpTo : ℕ → List Row → Type 0
AllUpTo high [] = Unit {0}
AllUpTo high (r ∷ rows) = (r.address ≤ high) × AllUpTo high rows

-- the first row or, if there is none, the second
abbrev pub or_row : Option Row → Option Row → Option Row
or_row None other = other
or_row (Some r) other = Some r

-- of sorted rows, the last one at or below an address
unfoldable pub last_at : List Row → ℕ → Option Row
last_at [] a = None
last_at (r ∷ rows) a = or_row (last_at rows a) (if nat_le r.address a then Some r else None)

-- the row at an address in the first counted sequence that covers it
unfoldable pub counted_row : List Counted → ℕ → Option Row
counted_row [] a = None
counted_row (k ∷ kept) a = if has k a then last_at k.rows a else counted_row kept a

-- the row at an address in the last counted sequence that covers it; if none does, the row `under`
unfoldable pub back_row : Option Row → List Counted → ℕ → Option Row
back_row under [] a = under
back_row under (k ∷ kept) a = back_row (if has k a then last_at k.rows a else under) kept a

-- the counted sequence whose index a first item has; the row at an address in a counted sequence
-- that may be missing
abbrev pub covering : List Counted → Option FirstItem → Option Counted
covering kept None = None
covering kept (Some item) = slice_get kept item.index

abbrev pub row_by : Option Counted → ℕ → Option Row
row_by None a = None
row_by (Some k) a = last_at k.rows a

-- the lesser of the least address so far, which may be missing, and another address
abbrev pub least_step : Option ℕ → ℕ → Option ℕ
least_step None address = Some address
least_step (Some other) address = Some (min address other)
