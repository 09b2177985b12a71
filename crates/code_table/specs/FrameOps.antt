-- The call frame instructions whose operands come after the opcode (DWARF 5, table 7.29, and DW_CFA_GNU_args_size of the GNU tools).
use Rattle.std.specs.Prelude.{ℕ, ◌==◌, not, List, [], ◌∷◌, filter}
use Rattle.code_table.specs.declared.kind.Kind.{Kind}
use Rattle.code_table.specs.declared.kind.Kind.TheVariants.{Nothing, U8, U16, U32, Uleb, Sleb, BlockUleb}
use Rattle.code_table.specs.declared.code_row.CodeRow.{CodeRow}

-- one row: an opcode with its first and its second operand
abbrev pub op : ℕ → Kind → Kind → CodeRow
op code first second = record { code = code; shape = record { first = first; second = second } }

-- the operand of DW_CFA_set_loc is a pointer, whose layout the augmentation gives, so the row of this opcode has no operand
unfoldable pub frame_opcodes : List CodeRow
frame_opcodes =
    op 0x00 Nothing Nothing  -- DW_CFA_nop
    ∷ op 0x01 Nothing Nothing  -- DW_CFA_set_loc
    ∷ op 0x02 U8 Nothing  -- DW_CFA_advance_loc1
    ∷ op 0x03 U16 Nothing  -- DW_CFA_advance_loc2
    ∷ op 0x04 U32 Nothing  -- DW_CFA_advance_loc4
    ∷ op 0x05 Uleb Uleb  -- DW_CFA_offset_extended
    ∷ op 0x06 Uleb Nothing  -- DW_CFA_restore_extended
    ∷ op 0x07 Uleb Nothing  -- DW_CFA_undefined
    ∷ op 0x08 Uleb Nothing  -- DW_CFA_same_value
    ∷ op 0x09 Uleb Uleb  -- DW_CFA_register
    ∷ op 0x0a Nothing Nothing  -- DW_CFA_remember_state
    ∷ op 0x0b Nothing Nothing  -- DW_CFA_restore_state
    ∷ op 0x0c Uleb Uleb  -- DW_CFA_def_cfa
    ∷ op 0x0d Uleb Nothing  -- DW_CFA_def_cfa_register
    ∷ op 0x0e Uleb Nothing  -- DW_CFA_def_cfa_offset
    ∷ op 0x0f BlockUleb Nothing  -- DW_CFA_def_cfa_expression
    ∷ op 0x10 Uleb BlockUleb  -- DW_CFA_expression
    ∷ op 0x11 Uleb Sleb  -- DW_CFA_offset_extended_sf
    ∷ op 0x12 Uleb Sleb  -- DW_CFA_def_cfa_sf
    ∷ op 0x13 Sleb Nothing  -- DW_CFA_def_cfa_offset_sf
    ∷ op 0x14 Uleb Uleb  -- DW_CFA_val_offset
    ∷ op 0x15 Uleb Sleb  -- DW_CFA_val_offset_sf
    ∷ op 0x16 Uleb BlockUleb  -- DW_CFA_val_expression
    ∷ op 0x2e Uleb Nothing  -- DW_CFA_GNU_args_size
    ∷ []

-- the rows of the table, except that of DW_CFA_set_loc
unfoldable pub plain_opcodes : List CodeRow
plain_opcodes = filter (λ row. not (row.code == 0x01)) frame_opcodes
