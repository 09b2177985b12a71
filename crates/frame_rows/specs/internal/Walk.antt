-- The rows that a single pass over the instructions makes.
use Rattle.std.specs.Prelude.{ℕ, ◌&&◌, nat_lt, if◌then◌else◌, List, [], ◌∷◌, ◌++◌}
use Rattle.frame_rows.specs.declared.row.Row.{Row}
use Rattle.frame_rows.specs.declared.row.RowAt.{RowAt}
use Rattle.frame_rows.specs.Instructions.{Item}
use Rattle.frame_rows.specs.Machine.{Machine}
use Rattle.frame_rows.specs.Context.{Context}
use Rattle.frame_rows.specs.Rows.{item_stepped}

-- the row at the location
abbrev pub row_here : Machine → RowAt
row_here m = record { address = m.address; row = m.row }

-- the row that ends because the location moves to `next`, if the row begins below the end
abbrev pub ended_row : ℕ → Machine → ℕ → List RowAt
ended_row end m next = if nat_lt m.address next && nat_lt m.address end then row_here m ∷ [] else []

-- the row at the location, if the location is below the end
abbrev pub last_row : ℕ → Machine → List RowAt
last_row end m = if nat_lt m.address end then row_here m ∷ [] else []

-- the rows from a state on
unfoldable pub rows_from : ℕ → Context → List Item → Machine → List RowAt
rows_from end s [] m = last_row end m
rows_from end s (i ∷ items) m = ended_row end m (item_stepped s i m).address ++ rows_from end s items (item_stepped s i m)

-- a row at an address
abbrev pub row_with : ℕ → Row → RowAt
row_with address row = record { address = address; row = row }

-- the rows from a state on, if its location is above the address `at`
unfoldable pub rows_past : ℕ → Context → List Item → Machine → ℕ → List RowAt
rows_past end s items m at = if nat_lt at m.address then rows_from end s items m else []
