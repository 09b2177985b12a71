-- Rows as the code stores them: a file number above 2^32 - 1 is stored as 2^32 - 1, which is the number of no file of a table.
use Rattle.std.specs.Prelude.{◌-◌, ◌^◌, min, List, [], ◌∷◌, ◌++◌, map, Result, Ok, Err}
use Rattle.sym_edges.specs.Results.{◌>>=◌}
use Rattle.leb_cursor.specs.Ahead.{Ahead}
use Rattle.line_program.specs.declared.opcode.Opcode.{Opcode}
use Rattle.line_program.specs.declared.opcode.Opcode.TheVariants.{Special, Copy, EndSequence}
use Rattle.line_program.specs.declared.row.Row.{Row}
use Rattle.line_program.specs.Faults.{Fault}
use Rattle.line_program.specs.LineAt.{Lines}
use Rattle.line_program.specs.LineRows.{Sequence, State, row_of, moved, carried}
use Rattle.line_program.specs.Opcodes.{opcodes_at}
use Rattle.line_program.specs.ProgramFields.{ProgramFields}

abbrev pub kept_row : Row → Row
kept_row r = record { address = r.address; file = min r.file (2 ^ 32 - 1); line = r.line }

abbrev pub kept_sequence : Sequence → Sequence
kept_sequence s = record { rows = map kept_row s.rows; end = s.end }

abbrev pub kept_state : State → State
kept_state s = record { registers = s.registers; rows = map kept_row s.rows; sequences = map kept_sequence s.sequences; files = s.files }

abbrev pub kept_lines : Lines → Lines
kept_lines l = record { sequences = map kept_sequence l.sequences; first = l.first; files = l.files }

-- a state that was read, with its rows as they are stored, or its fault
abbrev pub or_kept_state : Result State Fault → Result State Fault
or_kept_state (Ok state) = Ok (kept_state state)
or_kept_state (Err fault) = Err fault

abbrev pub or_kept_lines : Result Lines Fault → Result Lines Fault
or_kept_lines (Ok lines) = Ok (kept_lines lines)
or_kept_lines (Err fault) = Err fault

-- the stored rows after an opcode
abbrev pub rows_kept : ProgramFields → Opcode → State → List Row
rows_kept p (Special adjusted) s = s.rows ++ kept_row (row_of (moved p (Special adjusted) s.registers)) ∷ []
rows_kept p Copy s = s.rows ++ kept_row (row_of s.registers) ∷ []
rows_kept p EndSequence s = []
rows_kept p _ s = s.rows

-- the stored state after an opcode, after a list of opcodes, and after the opcodes ahead
unfoldable pub carried_kept : ProgramFields → Opcode → State → State
carried_kept p opcode s = record (carried p opcode s) { rows = rows_kept p opcode s }

unfoldable pub all_kept : ProgramFields → List Opcode → State → State
all_kept p [] s = s
all_kept p (opcode ∷ opcodes) s = all_kept p opcodes (carried_kept p opcode s)

unfoldable pub run_kept : ProgramFields → State → Ahead → Result State Fault
run_kept p s c = opcodes_at p c >>= λ opcodes. Ok (all_kept p opcodes.0 s)
