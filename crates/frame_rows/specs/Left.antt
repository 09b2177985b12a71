-- The state that a CIE leaves.
use Rattle.std.specs.Prelude.{List}
use Rattle.frame_rows.specs.declared.row.Row.{Row}
use Rattle.frame_rows.specs.declared.machine.CieContext.{CieContext}

-- what the instructions of a CIE leave: the context for the instructions of its FDEs, which has the row, and the row stack
pub record Left : Type 0 where
  pub context : CieContext
  pub stack : List Row
