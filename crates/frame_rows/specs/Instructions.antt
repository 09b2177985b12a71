-- The call frame instructions in a run of bytes (DWARF 5, sections 6.4.2 and 7.24).
use Rattle.std.specs.Prelude.{ℕ, ℤ, zero, suc, ◌/◌, ◌%◌, ◌==◌, if◌then◌else◌, List, [], ◌∷◌, length, Result, Ok, Err}
use Rattle.sym_edges.specs.declared.reason.Reason.{Reason}
use Rattle.sym_edges.specs.declared.reason.Reason.TheVariants as reason
use Rattle.leb_cursor.specs.declared.fault.CursorFault.{CursorFault}
use Rattle.sym_edges.specs.Results.{◌>>=◌}
use Rattle.leb_cursor.specs.Ahead.{Ahead}
use Rattle.leb_cursor.specs.Readings.{fixed_at, uleb_at, sleb_at, take_at}
use Rattle.frame_entries.specs.Pointers.{pointer_at}
use Rattle.frame_entries.specs.Listing.{from_start}
use Rattle.frame_entries.specs.FrameEntries.{address_at}
use Rattle.frame_rows.specs.declared.instruction.Block.{Block}
use Rattle.frame_rows.specs.declared.instruction.Instruction.{Instruction}
use Rattle.frame_rows.specs.declared.instruction.Instruction.TheVariants.{SetLoc, AdvanceLoc, DefCfa, DefCfaSf, DefCfaRegister, DefCfaOffset, DefCfaOffsetSf, DefCfaExpression, Undefined, SameValue, Offset, OffsetExtendedSf, ValOffset, ValOffsetSf, Register, Expression, ValExpression, Restore, RememberState, RestoreState, Nop}

-- if an opcode or an operand cannot be read, the reason is `instruction`
abbrev pub or_instruction : {A : Type 0} → Result A CursorFault → Result A Reason
or_instruction (Ok x) = Ok x
or_instruction (Err fault) = Err reason.Instruction

-- the block of a DWARF expression: its length, then that many bytes. The result is where the bytes start, and the length
unfoldable pub block_at : Ahead → Result (Block × Ahead) Reason
block_at c = or_instruction (uleb_at c) >>= λ len. or_instruction (take_at len.0 len.1) >>= λ run. Ok (record { start = len.1.at; len = len.0 }, run.1)

-- the kinds of operands, by the standard's names: a number of one, two or four bytes, an unsigned or a signed LEB128, or a DWARF expression
pub data Operand : Type 0 where
  Ubyte : Operand
  Uhalf : Operand
  Uword : Operand
  Uleb : Operand
  Sleb : Operand
  Exprloc : Operand

-- the value of an operand of each kind
abbrev pub Value : Operand → Type 0
Value Ubyte = ℕ
Value Uhalf = ℕ
Value Uword = ℕ
Value Uleb = ℕ
Value Sleb = ℤ
Value Exprloc = Block

unfoldable pub operand_at : (operand : Operand) → Ahead → Result (Value operand × Ahead) Reason
operand_at Ubyte c = or_instruction (fixed_at 1 c)
operand_at Uhalf c = or_instruction (fixed_at 2 c)
operand_at Uword c = or_instruction (fixed_at 4 c)
operand_at Uleb c = or_instruction (uleb_at c)
operand_at Sleb c = or_instruction (sleb_at c)
operand_at Exprloc c = block_at c

-- the operands that follow an opcode, and the instruction that they make
pub data Form : Type 0 where
  -- no operand, one operand, or two
  Alone : Instruction → Form
  One : (operand : Operand) → (Value operand → Instruction) → Form
  Two : (first second : Operand) → (Value first → Value second → Instruction) → Form
  -- an address, as a pointer in the entry's encoding
  Pointer : (ℕ → Instruction) → Form
  -- there is no such opcode
  Unknown : Form

-- an instruction that is made of one operand, or of two operands, which are read one after the
-- other
abbrev pub one : {A : Type 0} → (A → Instruction) → Result (A × Ahead) Reason → Result (Instruction × Ahead) Reason
one make operand = operand >>= λ x. Ok (make x.0, x.1)

abbrev pub two : {A B : Type 0} → (A → B → Instruction) → Result (A × Ahead) Reason → (Ahead → Result (B × Ahead) Reason) → Result (Instruction × Ahead) Reason
two make first second = first >>= λ x. one (make x.0) (second x.1)

-- an instruction by its form; `base` is the address of the first byte of the run
unfoldable pub form_at : ℕ → ℕ → Form → Ahead → Result (Instruction × Ahead) Reason
form_at encoding base (Alone instruction) c = Ok (instruction, c)
form_at encoding base (One operand make) c = one make (operand_at operand c)
form_at encoding base (Two first second make) c = two make (operand_at first c) (operand_at second)
form_at encoding base (Pointer make) c = one make (or_instruction (pointer_at encoding (address_at base c.at) c))
form_at encoding base Unknown c = Err reason.Instruction

-- the operands and the meaning of an opcode that has no operand in its low bits (DWARF 5, table 7.29)
unfoldable pub extended_form : ℕ → Form
extended_form opcode =
    if opcode == 0x00 then Alone Nop else  -- DW_CFA_nop
    if opcode == 0x01 then Pointer SetLoc else  -- DW_CFA_set_loc
    if opcode == 0x02 then One Ubyte AdvanceLoc else  -- DW_CFA_advance_loc1
    if opcode == 0x03 then One Uhalf AdvanceLoc else  -- DW_CFA_advance_loc2
    if opcode == 0x04 then One Uword AdvanceLoc else  -- DW_CFA_advance_loc4
    if opcode == 0x05 then Two Uleb Uleb Offset else  -- DW_CFA_offset_extended
    if opcode == 0x06 then One Uleb Restore else  -- DW_CFA_restore_extended
    if opcode == 0x07 then One Uleb Undefined else  -- DW_CFA_undefined
    if opcode == 0x08 then One Uleb SameValue else  -- DW_CFA_same_value
    if opcode == 0x09 then Two Uleb Uleb Register else  -- DW_CFA_register
    if opcode == 0x0a then Alone RememberState else  -- DW_CFA_remember_state
    if opcode == 0x0b then Alone RestoreState else  -- DW_CFA_restore_state
    if opcode == 0x0c then Two Uleb Uleb DefCfa else  -- DW_CFA_def_cfa
    if opcode == 0x0d then One Uleb DefCfaRegister else  -- DW_CFA_def_cfa_register
    if opcode == 0x0e then One Uleb DefCfaOffset else  -- DW_CFA_def_cfa_offset
    if opcode == 0x0f then One Exprloc DefCfaExpression else  -- DW_CFA_def_cfa_expression
    if opcode == 0x10 then Two Uleb Exprloc Expression else  -- DW_CFA_expression
    if opcode == 0x11 then Two Uleb Sleb OffsetExtendedSf else  -- DW_CFA_offset_extended_sf
    if opcode == 0x12 then Two Uleb Sleb DefCfaSf else  -- DW_CFA_def_cfa_sf
    if opcode == 0x13 then One Sleb DefCfaOffsetSf else  -- DW_CFA_def_cfa_offset_sf
    if opcode == 0x14 then Two Uleb Uleb ValOffset else  -- DW_CFA_val_offset
    if opcode == 0x15 then Two Uleb Sleb ValOffsetSf else  -- DW_CFA_val_offset_sf
    if opcode == 0x16 then Two Uleb Exprloc ValExpression else  -- DW_CFA_val_expression
    if opcode == 0x2e then One Uleb (λ size. Nop) else  -- DW_CFA_GNU_args_size
    Unknown

-- the operands and the meaning of an opcode; three opcodes have an operand in their low six bits
unfoldable pub form_of : ℕ → Form
form_of opcode =
    if opcode / 64 == 1 then Alone (AdvanceLoc (opcode % 64)) else  -- DW_CFA_advance_loc
    if opcode / 64 == 2 then One Uleb (Offset (opcode % 64)) else  -- DW_CFA_offset
    if opcode / 64 == 3 then Alone (Restore (opcode % 64)) else  -- DW_CFA_restore
    extended_form opcode

-- the rest of an instruction after its opcode: for any opcode, and for an opcode that has no
-- operand in its low bits
abbrev pub behind_opcode : ℕ → ℕ → ℕ → Ahead → Result (Instruction × Ahead) Reason
behind_opcode encoding base opcode c = form_at encoding base (form_of opcode) c

abbrev pub extended_at : ℕ → ℕ → ℕ → Ahead → Result (Instruction × Ahead) Reason
extended_at encoding base opcode c = form_at encoding base (extended_form opcode) c

-- the next instruction, or the reason for which it cannot be read; `base` is the address of the first byte of the run
unfoldable pub instruction_at : ℕ → ℕ → Ahead → Result (Instruction × Ahead) Reason
instruction_at encoding base c = or_instruction (fixed_at 1 c) >>= λ opcode. behind_opcode encoding base opcode.0 opcode.1

-- an instruction, or the reason for which it cannot be read
abbrev pub Item : Type 0
Item = Result Instruction Reason

-- an instruction that was read comes before the later ones; one that cannot be read ends the list
abbrev pub onto_later : Result (Instruction × Ahead) Reason → (Ahead → List Item) → List Item
onto_later (Ok x) later = Ok x.0 ∷ later x.1
onto_later (Err why) later = Err why ∷ []

-- the instructions ahead, at most n
unfoldable pub listed_in : ℕ → ℕ → ℕ → Ahead → List Item
listed_in zero encoding base c = []
listed_in (suc n) encoding base c =
    if length c.bytes == 0 then [] else onto_later (instruction_at encoding base c) (listed_in n encoding base)

-- the instructions ahead, up to the first that cannot be read; each has at least one byte, so there are no more instructions than bytes
unfoldable pub listed_at : ℕ → ℕ → Ahead → List Item
listed_at encoding base c = listed_in (length c.bytes) encoding base c

-- the instructions ahead, given `later`, which gives those after the first
unfoldable pub listed_by : (ℕ → ℕ → Ahead → List Item) → ℕ → ℕ → Ahead → List Item
listed_by later encoding base c =
    if length c.bytes == 0 then [] else onto_later (instruction_at encoding base c) (later encoding base)

-- the instructions of a run of bytes
unfoldable pub instructions : ℕ → ℕ → List ℕ → List Item
instructions encoding base bytes = listed_at encoding base (from_start bytes)
