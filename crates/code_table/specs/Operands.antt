-- That an operation takes the operands that its row in the table lists.
use Rattle.std.specs.Prelude.{◌≡◌, ℕ, Option, Some, None, Result, Ok, Err}
use Rattle.leb_cursor.specs.Ahead.{Ahead}
use Rattle.code_table.specs.declared.code_row.CodeRow.{CodeRow}
use Rattle.code_table.specs.Layouts.{shape_at}

-- what is ahead after a reading, if the reading is not refused
abbrev pub left : {A E : Type 0} → Result (A × Ahead) E → Option Ahead
left (Ok x) = Some x.1
left (Err fault) = None

-- the reading after the opcode of a row passes the same bytes as a reading of the row's operands,
-- and is refused exactly if that is
abbrev pub TakesOperands : {A E : Type 0} → (ℕ → Ahead → Result (A × Ahead) E) → CodeRow → Type 0
TakesOperands after_opcode row = (c : Ahead) → left (after_opcode row.code c) ≡ left (shape_at row.shape c)
