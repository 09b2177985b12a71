-- The operations of a DWARF expression, one after the other in a run of bytes (DWARF 5, sections 2.5 and 7.7.1).
use Rattle.std.specs.Prelude.{ℕ, ◌-◌, ◌==◌, ◌&&◌, nat_le, if◌then◌else◌, List, length, Option, None, Some, Result, Ok, Err}
use Rattle.std.specs.Int.{Width, w8, w16, w32, w64, cast_signed, cast_unsigned}
use Rattle.sym_edges.specs.declared.reason.Reason.{Reason}
use Rattle.sym_edges.specs.declared.reason.Reason.TheVariants as reason
use Rattle.sym_edges.specs.Results.{◌>>=◌}
use Rattle.leb_cursor.specs.declared.fault.CursorFault.{CursorFault}
use Rattle.leb_cursor.specs.Ahead.{Ahead}
use Rattle.leb_cursor.specs.Readings.{fixed_at, uleb_at, sleb_at}
use Rattle.leb_cursor.specs.Lists.{list_at}
use Rattle.expr_steps.specs.declared.operation.Operation.{Operation}
use Rattle.expr_steps.specs.declared.operation.Operation.TheVariants.{Constant, Breg, Deref, And, Minus, Mul, Plus, PlusUconst, Shl, Ge}

-- the fault if an opcode or an operand cannot be read: the expression ends too early, or a LEB128 is too long
abbrev pub or_unread : {A : Type 0} → Result A CursorFault → Result A Reason
or_unread (Ok x) = Ok x
or_unread (Err fault) = Err reason.Expression

-- an operation without an operand, and an operation with one operand
abbrev pub alone : Operation → Ahead → Result (Operation × Ahead) Reason
alone operation c = Ok (operation, c)

abbrev pub one : {A : Type 0} → (Ahead → Result (A × Ahead) CursorFault) → (A → Operation) → Ahead → Result (Operation × Ahead) Reason
one operand make c = or_unread (operand c) >>= λ x. Ok (make x.0, x.1)

-- a constant that is read as a signed number of a given width: its value modulo 2^64
abbrev pub signed : Width → ℕ → Operation
signed w n = Constant (cast_unsigned w64 (cast_signed w n))

-- the operation after its opcode was read, with its operand (DWARF 5, table 7.9); other opcodes are refused
unfoldable pub behind_opcode : ℕ → Ahead → Result (Operation × Ahead) Reason
behind_opcode opcode c =
    if opcode == 0x06 then alone Deref c else  -- DW_OP_deref
    if opcode == 0x08 then one (fixed_at 1) Constant c else  -- DW_OP_const1u
    if opcode == 0x09 then one (fixed_at 1) (signed w8) c else  -- DW_OP_const1s
    if opcode == 0x0a then one (fixed_at 2) Constant c else  -- DW_OP_const2u
    if opcode == 0x0b then one (fixed_at 2) (signed w16) c else  -- DW_OP_const2s
    if opcode == 0x0c then one (fixed_at 4) Constant c else  -- DW_OP_const4u
    if opcode == 0x0d then one (fixed_at 4) (signed w32) c else  -- DW_OP_const4s
    if opcode == 0x0e then one (fixed_at 8) Constant c else  -- DW_OP_const8u
    if opcode == 0x0f then one (fixed_at 8) (signed w64) c else  -- DW_OP_const8s
    if opcode == 0x10 then one uleb_at Constant c else  -- DW_OP_constu
    if opcode == 0x11 then one sleb_at (λ n. Constant (cast_unsigned w64 n)) c else  -- DW_OP_consts
    if opcode == 0x1a then alone And c else  -- DW_OP_and
    if opcode == 0x1c then alone Minus c else  -- DW_OP_minus
    if opcode == 0x1e then alone Mul c else  -- DW_OP_mul
    if opcode == 0x22 then alone Plus c else  -- DW_OP_plus
    if opcode == 0x23 then one uleb_at PlusUconst c else  -- DW_OP_plus_uconst
    if opcode == 0x24 then alone Shl c else  -- DW_OP_shl
    if opcode == 0x2a then alone Ge c else  -- DW_OP_ge
    if nat_le 0x30 opcode && nat_le opcode 0x4f then alone (Constant (opcode - 0x30)) c else  -- DW_OP_lit0 to DW_OP_lit31
    if nat_le 0x70 opcode && nat_le opcode 0x8f then one sleb_at (Breg (opcode - 0x70)) c else  -- DW_OP_breg0 to DW_OP_breg31
    Err reason.Expression

-- the next operation
unfoldable pub operation_at : Ahead → Result (Operation × Ahead) Reason
operation_at c = or_unread (fixed_at 1 c) >>= λ opcode. behind_opcode opcode.0 opcode.1

-- the next operation, or none if no byte is left
unfoldable pub next_operation : Ahead → Result (Option Operation × Ahead) Reason
next_operation c = if length c.bytes == 0 then Ok (None, c) else (operation_at c >>= λ x. Ok (Some x.0, x.1))

-- the operations ahead, or none if one of them cannot be read
abbrev pub listed : Result (List Operation × Ahead) Reason → Option (List Operation)
listed (Ok x) = Some x.0
listed (Err why) = None

unfoldable pub operations_at : Ahead → Option (List Operation)
operations_at c = listed (list_at next_operation c)

-- the operations of an expression
unfoldable pub operations : List ℕ → Option (List Operation)
operations bytes = operations_at (record { bytes = bytes; at = 0 })
