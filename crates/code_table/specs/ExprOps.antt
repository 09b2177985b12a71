-- The opcodes of DWARF expressions that are read, with their operands (DWARF 5, 2.5 and table 7.9). A constant of fixed size has the same layout with
-- a sign as without one.
use Rattle.std.specs.Prelude.{ℕ, List, [], ◌∷◌}
use Rattle.code_table.specs.declared.kind.Kind.{Kind}
use Rattle.code_table.specs.declared.kind.Kind.TheVariants.{Nothing, U8, U16, U32, U64, Uleb, Sleb}
use Rattle.code_table.specs.declared.code_row.CodeRow.{CodeRow}

-- one row: an opcode with its operand
abbrev pub expr_op : ℕ → Kind → CodeRow
expr_op code operand = record { code = code; shape = record { first = operand; second = Nothing } }

unfoldable pub expr_opcodes : List CodeRow
expr_opcodes =
    expr_op 0x06 Nothing  -- DW_OP_deref
    ∷ expr_op 0x08 U8  -- DW_OP_const1u
    ∷ expr_op 0x09 U8  -- DW_OP_const1s
    ∷ expr_op 0x0a U16  -- DW_OP_const2u
    ∷ expr_op 0x0b U16  -- DW_OP_const2s
    ∷ expr_op 0x0c U32  -- DW_OP_const4u
    ∷ expr_op 0x0d U32  -- DW_OP_const4s
    ∷ expr_op 0x0e U64  -- DW_OP_const8u
    ∷ expr_op 0x0f U64  -- DW_OP_const8s
    ∷ expr_op 0x10 Uleb  -- DW_OP_constu
    ∷ expr_op 0x11 Sleb  -- DW_OP_consts
    ∷ expr_op 0x1a Nothing  -- DW_OP_and
    ∷ expr_op 0x1c Nothing  -- DW_OP_minus
    ∷ expr_op 0x1e Nothing  -- DW_OP_mul
    ∷ expr_op 0x22 Nothing  -- DW_OP_plus
    ∷ expr_op 0x23 Uleb  -- DW_OP_plus_uconst
    ∷ expr_op 0x24 Nothing  -- DW_OP_shl
    ∷ expr_op 0x2a Nothing  -- DW_OP_ge
    ∷ expr_op 0x30 Nothing  -- DW_OP_lit0
    ∷ expr_op 0x31 Nothing  -- DW_OP_lit1
    ∷ expr_op 0x32 Nothing  -- DW_OP_lit2
    ∷ expr_op 0x33 Nothing  -- DW_OP_lit3
    ∷ expr_op 0x34 Nothing  -- DW_OP_lit4
    ∷ expr_op 0x35 Nothing  -- DW_OP_lit5
    ∷ expr_op 0x36 Nothing  -- DW_OP_lit6
    ∷ expr_op 0x37 Nothing  -- DW_OP_lit7
    ∷ expr_op 0x38 Nothing  -- DW_OP_lit8
    ∷ expr_op 0x39 Nothing  -- DW_OP_lit9
    ∷ expr_op 0x3a Nothing  -- DW_OP_lit10
    ∷ expr_op 0x3b Nothing  -- DW_OP_lit11
    ∷ expr_op 0x3c Nothing  -- DW_OP_lit12
    ∷ expr_op 0x3d Nothing  -- DW_OP_lit13
    ∷ expr_op 0x3e Nothing  -- DW_OP_lit14
    ∷ expr_op 0x3f Nothing  -- DW_OP_lit15
    ∷ expr_op 0x40 Nothing  -- DW_OP_lit16
    ∷ expr_op 0x41 Nothing  -- DW_OP_lit17
    ∷ expr_op 0x42 Nothing  -- DW_OP_lit18
    ∷ expr_op 0x43 Nothing  -- DW_OP_lit19
    ∷ expr_op 0x44 Nothing  -- DW_OP_lit20
    ∷ expr_op 0x45 Nothing  -- DW_OP_lit21
    ∷ expr_op 0x46 Nothing  -- DW_OP_lit22
    ∷ expr_op 0x47 Nothing  -- DW_OP_lit23
    ∷ expr_op 0x48 Nothing  -- DW_OP_lit24
    ∷ expr_op 0x49 Nothing  -- DW_OP_lit25
    ∷ expr_op 0x4a Nothing  -- DW_OP_lit26
    ∷ expr_op 0x4b Nothing  -- DW_OP_lit27
    ∷ expr_op 0x4c Nothing  -- DW_OP_lit28
    ∷ expr_op 0x4d Nothing  -- DW_OP_lit29
    ∷ expr_op 0x4e Nothing  -- DW_OP_lit30
    ∷ expr_op 0x4f Nothing  -- DW_OP_lit31
    ∷ expr_op 0x70 Sleb  -- DW_OP_breg0
    ∷ expr_op 0x71 Sleb  -- DW_OP_breg1
    ∷ expr_op 0x72 Sleb  -- DW_OP_breg2
    ∷ expr_op 0x73 Sleb  -- DW_OP_breg3
    ∷ expr_op 0x74 Sleb  -- DW_OP_breg4
    ∷ expr_op 0x75 Sleb  -- DW_OP_breg5
    ∷ expr_op 0x76 Sleb  -- DW_OP_breg6
    ∷ expr_op 0x77 Sleb  -- DW_OP_breg7
    ∷ expr_op 0x78 Sleb  -- DW_OP_breg8
    ∷ expr_op 0x79 Sleb  -- DW_OP_breg9
    ∷ expr_op 0x7a Sleb  -- DW_OP_breg10
    ∷ expr_op 0x7b Sleb  -- DW_OP_breg11
    ∷ expr_op 0x7c Sleb  -- DW_OP_breg12
    ∷ expr_op 0x7d Sleb  -- DW_OP_breg13
    ∷ expr_op 0x7e Sleb  -- DW_OP_breg14
    ∷ expr_op 0x7f Sleb  -- DW_OP_breg15
    ∷ expr_op 0x80 Sleb  -- DW_OP_breg16
    ∷ expr_op 0x81 Sleb  -- DW_OP_breg17
    ∷ expr_op 0x82 Sleb  -- DW_OP_breg18
    ∷ expr_op 0x83 Sleb  -- DW_OP_breg19
    ∷ expr_op 0x84 Sleb  -- DW_OP_breg20
    ∷ expr_op 0x85 Sleb  -- DW_OP_breg21
    ∷ expr_op 0x86 Sleb  -- DW_OP_breg22
    ∷ expr_op 0x87 Sleb  -- DW_OP_breg23
    ∷ expr_op 0x88 Sleb  -- DW_OP_breg24
    ∷ expr_op 0x89 Sleb  -- DW_OP_breg25
    ∷ expr_op 0x8a Sleb  -- DW_OP_breg26
    ∷ expr_op 0x8b Sleb  -- DW_OP_breg27
    ∷ expr_op 0x8c Sleb  -- DW_OP_breg28
    ∷ expr_op 0x8d Sleb  -- DW_OP_breg29
    ∷ expr_op 0x8e Sleb  -- DW_OP_breg30
    ∷ expr_op 0x8f Sleb  -- DW_OP_breg31
    ∷ []
