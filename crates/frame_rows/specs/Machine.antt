-- The state that instructions change.
use Rattle.std.specs.Prelude.{ℕ, List}
use Rattle.frame_rows.specs.declared.row.Row.{Row}

-- the state between two instructions: the location, the row there, and the row stack, with the row that was remembered last at the head
pub record Machine : Type 0 where
  pub address : ℕ
  pub row : Row
  pub stack : List Row
