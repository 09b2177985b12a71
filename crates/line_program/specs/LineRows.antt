-- The rows of a line number program: its opcodes are executed one after another (DWARF 5, 6.2.2 and 6.2.5).
use Rattle.std.specs.Prelude.{ℕ, ℤ, pos, unsigned_abs, ◌+ℤ◌, ◌+◌, ◌-◌, ◌*◌, ◌/◌, ◌%◌, ◌^◌, List, [], ◌∷◌, ◌++◌, Result, Ok}
use Rattle.std.specs.Int.{int_rem_euclid}
use Rattle.sym_edges.specs.Results.{◌>>=◌}
use Rattle.leb_cursor.specs.Ahead.{Ahead}
use Rattle.line_program.specs.declared.opcode.Opcode.{Opcode}
use Rattle.line_program.specs.declared.opcode.Opcode.TheVariants.{Special, Copy, AdvancePc, AdvanceLine, SetFile, ConstAddPc, FixedAdvancePc, EndSequence, SetAddress, DefineFile}
use Rattle.line_program.specs.declared.row.Row.{Row}
use Rattle.line_program.specs.FileFields.{FileFields}
use Rattle.line_program.specs.ProgramFields.{ProgramFields}
use Rattle.line_program.specs.Opcodes.{opcodes_at}
use Rattle.line_program.specs.Faults.{Fault}

-- the registers of the state machine on which the line of an address depends (6.2.2)
pub record Registers : Type 0 where
  pub address : ℕ
  pub file : ℕ
  pub line : ℕ

-- the registers at the start of each sequence
abbrev pub first_registers : Registers
first_registers = record { address = 0; file = 1; line = 1 }

-- an address, advanced by `count` instructions, modulo 2^64
abbrev pub advanced : ProgramFields → ℕ → ℕ → ℕ
advanced p address count = (address + p.minimum_length * count) % 2 ^ 64

-- a line, advanced by a number that may be negative, modulo 2^32
abbrev pub line_on : ℕ → ℤ → ℕ
line_on line by = unsigned_abs (int_rem_euclid (pos line +ℤ by) (pos (2 ^ 32)))

-- the registers after an opcode (6.2.5.1 to 6.2.5.3). DW_LNS_const_add_pc advances the address as
-- much as the special opcode 255
unfoldable pub moved : ProgramFields → Opcode → Registers → Registers
moved p (Special adjusted) r = record { address = advanced p r.address (adjusted / p.line_range); file = r.file; line = line_on r.line (p.line_base +ℤ pos (adjusted % p.line_range)) }
moved p (AdvancePc by) r = record { address = advanced p r.address by; file = r.file; line = r.line }
moved p (AdvanceLine by) r = record { address = r.address; file = r.file; line = line_on r.line by }
moved p (SetFile file) r = record { address = r.address; file = file; line = r.line }
moved p ConstAddPc r = record { address = advanced p r.address ((255 - p.opcode_base) / p.line_range); file = r.file; line = r.line }
moved p (FixedAdvancePc by) r = record { address = (r.address + by) % 2 ^ 64; file = r.file; line = r.line }
moved p EndSequence r = first_registers
moved p (SetAddress address) r = record { address = address; file = r.file; line = r.line }
moved p _ r = r

-- the row that the registers give
abbrev pub row_of : Registers → Row
row_of r = record { address = r.address; file = r.file; line = r.line }

-- a sequence of rows, and the address after its last instruction
pub record Sequence : Type 0 where
  pub rows : List Row
  pub end : ℕ

-- the state between two opcodes: the registers, the rows of the current sequence, the sequences
-- that have ended, and the files that the program has defined
pub record State : Type 0 where
  pub registers : Registers
  pub rows : List Row
  pub sequences : List Sequence
  pub files : List FileFields

abbrev pub first_state : State
first_state = record { registers = first_registers; rows = []; sequences = []; files = [] }

-- the rows of the current sequence after an opcode. A special opcode and DW_LNS_copy add the row of
-- the registers. DW_LNE_end_sequence adds no row: it ends the sequence, and another one begins
-- without rows
abbrev pub rows_behind : ProgramFields → Opcode → State → List Row
rows_behind p (Special adjusted) s = s.rows ++ row_of (moved p (Special adjusted) s.registers) ∷ []
rows_behind p Copy s = s.rows ++ row_of s.registers ∷ []
rows_behind p EndSequence s = []
rows_behind p _ s = s.rows

abbrev pub sequences_behind : Opcode → State → List Sequence
sequences_behind EndSequence s = s.sequences ++ record { rows = s.rows; end = s.registers.address } ∷ []
sequences_behind _ s = s.sequences

abbrev pub files_behind : Opcode → State → List FileFields
files_behind (DefineFile file) s = s.files ++ file ∷ []
files_behind _ s = s.files

-- the state after an opcode
unfoldable pub carried : ProgramFields → Opcode → State → State
carried p opcode s = record { registers = moved p opcode s.registers; rows = rows_behind p opcode s; sequences = sequences_behind opcode s; files = files_behind opcode s }

-- the state after a list of opcodes
unfoldable pub all_carried : ProgramFields → List Opcode → State → State
all_carried p [] s = s
all_carried p (opcode ∷ opcodes) s = all_carried p opcodes (carried p opcode s)

-- the state after all opcodes ahead, or the first fault
unfoldable pub run_from : ProgramFields → State → Ahead → Result State Fault
run_from p s c = opcodes_at p c >>= λ opcodes. Ok (all_carried p opcodes.0 s)

-- the state after a whole program. Rows without a later DW_LNE_end_sequence are in no sequence
abbrev pub line_rows : ProgramFields → Ahead → Result State Fault
line_rows p c = run_from p first_state c
