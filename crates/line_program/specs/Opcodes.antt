-- Reading the opcodes of a line number program (DWARF 5, 6.2.5).
use Rattle.std.specs.Prelude.{ℕ, zero, suc, ◌-◌, ◌==◌, ◌&&◌, nat_lt, nat_le, if◌then◌else◌, List, length, slice_index, Option, None, Some, Result, Ok, Err}
use Rattle.sym_edges.specs.Results.{◌>>=◌}
use Rattle.leb_cursor.specs.declared.fault.CursorFault.{CursorFault}
use Rattle.leb_cursor.specs.Ahead.{Ahead}
use Rattle.leb_cursor.specs.Lists.{list_at}
use Rattle.leb_cursor.specs.Readings.{fixed_at, uleb_at, sleb_at, text_at, part_at}
use Rattle.abbrev_units.specs.declared.fault.DwarfKind.TheVariants.{LineOpcode}
use Rattle.text_table.specs.Spaces.{held_text}
use Rattle.line_program.specs.declared.opcode.Opcode.{Opcode}
use Rattle.line_program.specs.declared.opcode.Opcode.TheVariants.{Special, Copy, AdvancePc, AdvanceLine, SetFile, SetColumn, NegateStmt, SetBasicBlock, ConstAddPc, FixedAdvancePc, SetPrologueEnd, SetEpilogueBegin, SetIsa, UnknownStandard, EndSequence, SetAddress, DefineFile, OtherExtended}
use Rattle.line_program.specs.Faults.{Fault, fault_at, in_line}
use Rattle.line_program.specs.FileFields.{FileFields}
use Rattle.line_program.specs.ProgramFields.{ProgramFields}

-- an opcode without operands; an opcode with one operand
abbrev pub alone : Opcode → Ahead → Result (Opcode × Ahead) Fault
alone opcode c = Ok (opcode, c)

abbrev pub one : {A : Type 0} → (Ahead → Result (A × Ahead) CursorFault) → (A → Opcode) → Ahead → Result (Opcode × Ahead) Fault
one operand make c = in_line (operand c) >>= λ x. Ok (make x.0, x.1)

-- skips n unsigned LEB128 operands
unfoldable pub pass_ulebs : ℕ → Ahead → Result Ahead Fault
pass_ulebs zero c = Ok c
pass_ulebs (suc n) c = in_line (uleb_at c) >>= λ operand. pass_ulebs n operand.1

-- a file, given its path: the fields after the path are the number of its directory, its time and its size (DWARF 4, 6.2.4, file_names)
unfoldable pub file_behind : List ℕ → Ahead → Result (FileFields × Ahead) Fault
file_behind path c =
    in_line (uleb_at c) >>= λ directory.
    in_line (uleb_at directory.1) >>= λ time.
    in_line (uleb_at time.1) >>= λ size.
    Ok (record { path = held_text path; directory = directory.0 }, size.1)

-- DW_LNE_define_file: a path, and the fields after it (DWARF 4, 6.2.5.3)
unfoldable pub define_file_at : Ahead → Result Opcode Fault
define_file_at c =
    in_line (text_at c) >>= λ path. file_behind path.0 path.1 >>= λ file. Ok (DefineFile file.0)

-- DW_LNE_set_address: an address of eight bytes, so the length of the opcode must be 9
unfoldable pub set_address_at : ℕ → ℕ → Ahead → Result Opcode Fault
set_address_at at len c =
    if len == 9
    then (in_line (fixed_at 8 c) >>= λ address. Ok (SetAddress address.0))
    else Err (fault_at LineOpcode at)

-- an extended opcode after its code; its zero byte is at `at` (6.2.5.3). Version 5 does not have
-- DW_LNE_define_file. DW_LNE_set_discriminator and unknown opcodes do nothing
unfoldable pub extended_of : ℕ → ℕ → ℕ → ℕ → Ahead → Result Opcode Fault
extended_of version at len code c =
    if code == 0x01 then Ok EndSequence else  -- DW_LNE_end_sequence
    if code == 0x02 then set_address_at at len c else  -- DW_LNE_set_address
    if code == 0x03 && nat_lt version 5 then define_file_at c else  -- DW_LNE_define_file
    Ok OtherExtended

-- an extended opcode after its length
unfoldable pub extended_in : ℕ → ℕ → ℕ → Ahead → Result Opcode Fault
extended_in version at len c = in_line (fixed_at 1 c) >>= λ code. extended_of version at len code.0 code.1

-- an extended opcode after the zero byte: a length, and that many bytes, after which the next opcode begins
unfoldable pub extended_at : ℕ → ℕ → Ahead → Result (Opcode × Ahead) Fault
extended_at version at c =
    in_line (uleb_at c) >>= λ len.
    in_line (part_at len.0 len.1) >>= λ part.
    if len.0 == 0
    then Err (fault_at LineOpcode at)
    else (extended_in version at len.0 part.0 >>= λ opcode. Ok (opcode, part.1))

-- a standard opcode after its first byte (6.2.5.2, and table 7.25). An unknown one has as many
-- operands as the header says
unfoldable pub standard_at : List ℕ → ℕ → Ahead → Result (Opcode × Ahead) Fault
standard_at lengths code c =
    if code == 0x01 then alone Copy c else  -- DW_LNS_copy
    if code == 0x02 then one uleb_at AdvancePc c else  -- DW_LNS_advance_pc
    if code == 0x03 then one sleb_at AdvanceLine c else  -- DW_LNS_advance_line
    if code == 0x04 then one uleb_at SetFile c else  -- DW_LNS_set_file
    if code == 0x05 then one uleb_at SetColumn c else  -- DW_LNS_set_column
    if code == 0x06 then alone NegateStmt c else  -- DW_LNS_negate_stmt
    if code == 0x07 then alone SetBasicBlock c else  -- DW_LNS_set_basic_block
    if code == 0x08 then alone ConstAddPc c else  -- DW_LNS_const_add_pc
    if code == 0x09 then one (fixed_at 2) FixedAdvancePc c else  -- DW_LNS_fixed_advance_pc
    if code == 0x0a then alone SetPrologueEnd c else  -- DW_LNS_set_prologue_end
    if code == 0x0b then alone SetEpilogueBegin c else  -- DW_LNS_set_epilogue_begin
    if code == 0x0c then one uleb_at SetIsa c else  -- DW_LNS_set_isa
    (pass_ulebs (slice_index lengths (code - 1)) c >>= λ later. Ok (UnknownStandard, later))

-- an opcode after its first byte `code`, which is at `at`. If `code` is opcode_base or more, the
-- opcode is a special one (6.2.5.1)
unfoldable pub behind_opcode : ProgramFields → ℕ → ℕ → Ahead → Result (Opcode × Ahead) Fault
behind_opcode p at code c =
    if nat_le p.opcode_base code then alone (Special (code - p.opcode_base)) c else
    if code == 0 then extended_at p.version at c else
    standard_at p.lengths code c

-- the next opcode
unfoldable pub opcode_at : ProgramFields → Ahead → Result (Opcode × Ahead) Fault
opcode_at p c = in_line (fixed_at 1 c) >>= λ code. behind_opcode p c.at code.0 code.1

-- the next opcode, or `None` at the end of the program
unfoldable pub next_at : ProgramFields → Ahead → Result (Option Opcode × Ahead) Fault
next_at p c =
    if length c.bytes == 0 then Ok (None, c) else (opcode_at p c >>= λ opcode. Ok (Some opcode.0, opcode.1))

-- the opcodes up to the end of the program
unfoldable pub opcodes_at : ProgramFields → Ahead → Result (List Opcode × Ahead) Fault
opcodes_at p c = list_at (next_at p) c
