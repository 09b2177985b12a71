-- Worked examples: each opcode, with the registers after it (DWARF 5, 6.2.5).
use Rattle.std.proofs.Common.{◌≡◌, ℕ, ◌-◌, ℤ, pos, negsuc, [], ◌∷◌, take, codes, Result, Ok, Err, refl}
use Prim.Native.String.{String}
use Rattle.sym_edges.proofs.Hex.{hex}
use Rattle.abbrev_units.specs.declared.fault.DwarfKind.TheVariants as is
use Rattle.line_program.specs.declared.row.Row.{Row}
use Rattle.line_program.specs.Faults.{Fault, fault_at}
use Rattle.line_program.specs.LineRows.{Registers, State, run_from}
use Rattle.line_program.specs.ProgramFields.{ProgramFields}
use Rattle.line_program.proofs.Computing.{line_program_computes}

abbrev reg : ℕ → ℕ → ℕ → Registers
reg address file line = record { address = address; file = file; line = line }

abbrev reg_row : Registers → Row
reg_row r = record { address = r.address; file = r.file; line = r.line }

-- The fields of a header, with the operands of the standard's opcodes and of seven unknown ones.
abbrev program : ℕ → ℕ → ℤ → ℕ → ℕ → ProgramFields
program version minimum_length line_base line_range opcode_base = record {
  version = version;
  minimum_length = minimum_length;
  line_base = line_base;
  line_range = line_range;
  opcode_base = opcode_base;
  lengths = take (opcode_base - 1) (0 ∷ 1 ∷ 1 ∷ 1 ∷ 1 ∷ 0 ∷ 0 ∷ 0 ∷ 1 ∷ 0 ∷ 0 ∷ 1 ∷ 2 ∷ 1 ∷ 0 ∷ 3 ∷ 0 ∷ 0 ∷ 0 ∷ []);
}

abbrev usual : ProgramFields
usual = program 4 1 (negsuc 2) 12 13

abbrev newest : ProgramFields
newest = program 5 1 (negsuc 2) 12 13

abbrev fours : ProgramFields
fours = program 4 4 (negsuc 2) 12 13

abbrev steep : ProgramFields
steep = program 4 1 (pos 0) 1 13

abbrev base1 : ProgramFields
base1 = program 4 1 (negsuc 2) 12 1

abbrev base4 : ProgramFields
base4 = program 4 1 (negsuc 2) 12 4

abbrev base10 : ProgramFields
base10 = program 2 1 (negsuc 2) 12 10

abbrev base20 : ProgramFields
base20 = program 4 1 (negsuc 2) 12 20

-- The state before each opcode.
abbrev begun : State
begun = record { registers = reg 0x1000 2 10; rows = []; sequences = []; files = [] }

-- Only the registers change; the registers change and their row is added.
abbrev moves : Registers → Result State Fault
moves r = Ok (record { registers = r; rows = []; sequences = []; files = [] })

abbrev adds : Registers → Result State Fault
adds r = Ok (record { registers = r; rows = reg_row r ∷ []; sequences = []; files = [] })

-- The state after opcodes that begin at place 40.
unfoldable behind : ProgramFields → String → Result State Fault
unfolding hex
behind p text = run_from p begun (record { bytes = hex text; at = 0x40 })

-- Standard opcodes; each begins at address 1000, file 2 and line 10.
copy : behind usual "01" ≡ adds (reg 0x1000 2 10)
unfolding line_program_computes behind
copy = refl

advance_pc : behind usual "02 8001" ≡ moves (reg 0x1080 2 10)
unfolding line_program_computes behind
advance_pc = refl

-- The minimum instruction length is 4.
advance_pc_by_fours : behind fours "02 03" ≡ moves (reg 0x100c 2 10)
unfolding line_program_computes behind
advance_pc_by_fours = refl

-- Addresses are modulo 2^64.
advance_pc_past_the_end : behind usual "02 ffffffffffffffffff01" ≡ moves (reg 0xfff 2 10)
unfolding line_program_computes behind
advance_pc_past_the_end = refl

advance_line : behind usual "03 7f" ≡ moves (reg 0x1000 2 9)
unfolding line_program_computes behind
advance_line = refl

advance_line_to_0 : behind usual "03 76" ≡ moves (reg 0x1000 2 0)
unfolding line_program_computes behind
advance_line_to_0 = refl

-- Lines are modulo 2^32.
advance_line_below_0 : behind usual "03 75" ≡ moves (reg 0x1000 2 4294967295)
unfolding line_program_computes behind
advance_line_below_0 = refl

advance_line_past_the_end : behind usual "03 ffffffff0f" ≡ moves (reg 0x1000 2 9)
unfolding line_program_computes behind
advance_line_past_the_end = refl

set_file : behind usual "04 05" ≡ moves (reg 0x1000 5 10)
unfolding line_program_computes behind
set_file = refl

set_column : behind usual "05 07" ≡ moves (reg 0x1000 2 10)
unfolding line_program_computes behind
set_column = refl

negate_stmt : behind usual "06" ≡ moves (reg 0x1000 2 10)
unfolding line_program_computes behind
negate_stmt = refl

set_basic_block : behind usual "07" ≡ moves (reg 0x1000 2 10)
unfolding line_program_computes behind
set_basic_block = refl

-- The address is advanced as by the special opcode 255, by 242 / 12 instructions; the line stays.
const_add_pc : behind usual "08" ≡ moves (reg 0x1014 2 10)
unfolding line_program_computes behind
const_add_pc = refl

const_add_pc_by_fours : behind fours "08" ≡ moves (reg 0x1050 2 10)
unfolding line_program_computes behind
const_add_pc_by_fours = refl

fixed_advance_pc : behind usual "09 3412" ≡ moves (reg 0x2234 2 10)
unfolding line_program_computes behind
fixed_advance_pc = refl

-- The operand of DW_LNS_fixed_advance_pc is not multiplied.
fixed_advance_pc_by_fours : behind fours "09 3412" ≡ moves (reg 0x2234 2 10)
unfolding line_program_computes behind
fixed_advance_pc_by_fours = refl

set_prologue_end : behind usual "0a" ≡ moves (reg 0x1000 2 10)
unfolding line_program_computes behind
set_prologue_end = refl

set_epilogue_begin : behind usual "0b" ≡ moves (reg 0x1000 2 10)
unfolding line_program_computes behind
set_epilogue_begin = refl

set_isa : behind usual "0c 8001" ≡ moves (reg 0x1000 2 10)
unfolding line_program_computes behind
set_isa = refl

-- The first and the last special opcode.
first_special : behind usual "0d" ≡ adds (reg 0x1000 2 7)
unfolding line_program_computes behind
first_special = refl

last_special : behind usual "ff" ≡ adds (reg 0x1014 2 9)
unfolding line_program_computes behind
last_special = refl

-- line_base is -5 and line_range is 14.
special_4b : behind (program 4 1 (negsuc 4) 14 13) "4b" ≡ adds (reg 0x1004 2 11)
unfolding line_program_computes behind
special_4b = refl

last_special_by_fours : behind fours "ff" ≡ adds (reg 0x1050 2 9)
unfolding line_program_computes behind
last_special_by_fours = refl

-- line_range is 1: each special opcode advances by one more instruction.
special_of_range_1 : behind steep "10" ≡ adds (reg 0x1003 2 10)
unfolding line_program_computes behind
special_of_range_1 = refl

-- opcode_base is 1: there is no standard opcode.
special_from_1 : behind base1 "01" ≡ adds (reg 0x1000 2 7)
unfolding line_program_computes behind
special_from_1 = refl

-- opcode_base is 4: the opcodes 4 to 9 are special.
special_from_4 : behind base4 "04" ≡ adds (reg 0x1000 2 7)
unfolding line_program_computes behind
special_from_4 = refl

special_from_4_9 : behind base4 "09" ≡ adds (reg 0x1000 2 12)
unfolding line_program_computes behind
special_from_4_9 = refl

standard_below_4 : behind base4 "03 01" ≡ moves (reg 0x1000 2 11)
unfolding line_program_computes behind
standard_below_4 = refl

-- opcode_base is 10, as in DWARF 2.
special_from_10 : behind base10 "0a" ≡ adds (reg 0x1000 2 7)
unfolding line_program_computes behind
special_from_10 = refl

-- opcode_base is 20: unknown opcodes have as many operands as the header says.
unknown_of_two : behind base20 "0d 8001 05" ≡ moves (reg 0x1000 2 10)
unfolding line_program_computes behind
unknown_of_two = refl

unknown_of_three : behind base20 "10 01 02 808001" ≡ moves (reg 0x1000 2 10)
unfolding line_program_computes behind
unknown_of_three = refl

unknown_of_none : behind base20 "13" ≡ moves (reg 0x1000 2 10)
unfolding line_program_computes behind
unknown_of_none = refl

special_from_20 : behind base20 "14" ≡ adds (reg 0x1000 2 7)
unfolding line_program_computes behind
special_from_20 = refl

-- The end of a sequence adds no row, and resets the registers.
end_sequence : behind usual "01 00 01 01" ≡ Ok (record { registers = reg 0 1 1; rows = []; sequences = record { rows = reg_row (reg 0x1000 2 10) ∷ []; end = 0x1000 } ∷ []; files = [] })
unfolding line_program_computes behind
end_sequence = refl

-- Extended opcodes.
set_address : behind usual "00 09 02 8877665544332211" ≡ moves (reg 0x1122334455667788 2 10)
unfolding line_program_computes behind
set_address = refl

define_file : behind usual "00 06 03 6100 01 02 03" ≡ Ok (record begun { files = record { path = codes "a"; directory = 1 } ∷ [] })
unfolding line_program_computes behind
define_file = refl

define_file_of_version_5 : behind newest "00 06 03 6100 01 02 03" ≡ moves (reg 0x1000 2 10)
unfolding line_program_computes behind
define_file_of_version_5 = refl

set_discriminator : behind usual "00 02 04 01" ≡ moves (reg 0x1000 2 10)
unfolding line_program_computes behind
set_discriminator = refl

unknown_extended : behind usual "00 04 80 0900 01" ≡ moves (reg 0x1000 2 10)
unfolding line_program_computes behind
unknown_extended = refl

-- The faults of extended opcodes.
extended_of_no_byte : behind usual "00 00" ≡ Err (fault_at is.LineOpcode 0x40)
unfolding line_program_computes behind
extended_of_no_byte = refl

extended_of_a_long_length : behind usual "00 ffffffffffffffffffff01" ≡ Err (fault_at is.LebLong 0x41)
unfolding line_program_computes behind
extended_of_a_long_length = refl

extended_past_the_end : behind usual "01 00 05 04" ≡ Err (fault_at is.Ends 0x43)
unfolding line_program_computes behind
extended_past_the_end = refl

set_address_of_four : behind usual "00 05 02 01020304" ≡ Err (fault_at is.LineOpcode 0x40)
unfolding line_program_computes behind
set_address_of_four = refl

-- A length that leaves the table is found before a wrong length of an opcode.
set_address_of_length_5_cut : behind usual "00 05 02 01" ≡ Err (fault_at is.Ends 0x42)
unfolding line_program_computes behind
set_address_of_length_5_cut = refl

define_file_open : behind usual "00 03 03 6162" ≡ Err (fault_at is.NoZero 0x43)
unfolding line_program_computes behind
define_file_open = refl

define_file_cut : behind usual "00 04 03 6100 01 01" ≡ Err (fault_at is.Ends 0x46)
unfolding line_program_computes behind
define_file_cut = refl

-- Operands that are cut.
advance_pc_cut : behind usual "02 80" ≡ Err (fault_at is.Ends 0x41)
unfolding line_program_computes behind
advance_pc_cut = refl

advance_line_cut : behind usual "03" ≡ Err (fault_at is.Ends 0x41)
unfolding line_program_computes behind
advance_line_cut = refl

fixed_advance_pc_cut : behind usual "09 01" ≡ Err (fault_at is.Ends 0x41)
unfolding line_program_computes behind
fixed_advance_pc_cut = refl

unknown_cut : behind base20 "0d 01" ≡ Err (fault_at is.Ends 0x42)
unfolding line_program_computes behind
unknown_cut = refl
