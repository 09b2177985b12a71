-- The standard opcodes of line number programs, with their operands (DWARF 5, 6.2.5.2 and table 7.25).
use Rattle.std.specs.Prelude.{ℕ, List, [], ◌∷◌}
use Rattle.code_table.specs.declared.kind.Kind.{Kind}
use Rattle.code_table.specs.declared.kind.Kind.TheVariants.{Nothing, U16, Uleb, Sleb}
use Rattle.code_table.specs.declared.code_row.CodeRow.{CodeRow}

-- one row: an opcode with its operand
abbrev pub line_op : ℕ → Kind → CodeRow
line_op code operand = record { code = code; shape = record { first = operand; second = Nothing } }

unfoldable pub line_opcodes : List CodeRow
line_opcodes =
    line_op 0x01 Nothing  -- DW_LNS_copy
    ∷ line_op 0x02 Uleb  -- DW_LNS_advance_pc
    ∷ line_op 0x03 Sleb  -- DW_LNS_advance_line
    ∷ line_op 0x04 Uleb  -- DW_LNS_set_file
    ∷ line_op 0x05 Uleb  -- DW_LNS_set_column
    ∷ line_op 0x06 Nothing  -- DW_LNS_negate_stmt
    ∷ line_op 0x07 Nothing  -- DW_LNS_set_basic_block
    ∷ line_op 0x08 Nothing  -- DW_LNS_const_add_pc
    ∷ line_op 0x09 U16  -- DW_LNS_fixed_advance_pc
    ∷ line_op 0x0a Nothing  -- DW_LNS_set_prologue_end
    ∷ line_op 0x0b Nothing  -- DW_LNS_set_epilogue_begin
    ∷ line_op 0x0c Uleb  -- DW_LNS_set_isa
    ∷ []
