-- Worked examples: each layout of an operand, with what it reads and with its fault.
use Rattle.std.proofs.Common.{◌≡◌, ℕ, pos, negsuc, Some, None, Result, Ok, Err, refl}
use Prim.Native.String.{String}
use Rattle.sym_edges.specs.Results.{◌>>=◌}
use Rattle.leb_cursor.specs.declared.fault.CursorFault.{CursorFault}
use Rattle.leb_cursor.specs.declared.fault.CursorFault.TheVariants.{Ends, LebLong, NoZero}
use Rattle.code_table.specs.declared.kind.Kind.{Kind}
use Rattle.code_table.specs.declared.kind.Kind.TheVariants.{Nothing, U8, U16, U24, U32, U64, Bytes16, Uleb, Sleb, ZeroText, Block1, Block2, Block4, BlockUleb}
use Rattle.code_table.specs.declared.kind.Operand.{Operand}
use Rattle.code_table.specs.declared.kind.Operand.TheVariants.{Nothing as NoOperand, Num, Signed, Run}
use Rattle.code_table.specs.Layouts.{kind_at, shape_at}
use Rattle.code_table.specs.Rows.{shape_of}
use Rattle.code_table.specs.ExprOps.{expr_opcodes}
use Rattle.code_table.specs.FrameOps.{frame_opcodes}
use Rattle.sym_edges.proofs.Hex.{hex}
use Rattle.code_table.proofs.Computing.{code_table_computes}

-- The operand that is read among bytes of which the first has place 1, and the place after it.
unfoldable reads : Kind → String → Result (Operand × ℕ) CursorFault
unfolding hex
reads kind text = kind_at kind (record { bytes = hex text; at = 1 }) >>= λ operand. Ok (operand.0, operand.1.at)

-- The two operands of a shape.
unfoldable reads_both : Kind → Kind → String → Result (Operand × Operand) CursorFault
unfolding hex
reads_both first second text =
    shape_at (record { first = first; second = second }) (record { bytes = hex text; at = 1 }) >>= λ operands. Ok (operands.0.first, operands.0.second)

nothing : reads Nothing "ff" ≡ Ok (NoOperand, 1)
unfolding code_table_computes reads
nothing = refl

one_byte : reads U8 "01" ≡ Ok (Num 0x01, 2)
unfolding code_table_computes reads
one_byte = refl

two_bytes : reads U16 "01 02" ≡ Ok (Num 0x0201, 3)
unfolding code_table_computes reads
two_bytes = refl

three_bytes : reads U24 "01 02 03" ≡ Ok (Num 0x030201, 4)
unfolding code_table_computes reads
three_bytes = refl

four_bytes : reads U32 "01 02 03 04" ≡ Ok (Num 0x04030201, 5)
unfolding code_table_computes reads
four_bytes = refl

eight_bytes : reads U64 "01 02 03 04 05 06 07 08" ≡ Ok (Num 0x0807060504030201, 9)
unfolding code_table_computes reads
eight_bytes = refl

sixteen_bytes : reads Bytes16 "30313233 34353637 38396162 63646566" ≡ Ok (Run 1 16, 17)
unfolding code_table_computes reads
sixteen_bytes = refl

unsigned : reads Uleb "e5 8e 26" ≡ Ok (Num 624485, 4)
unfolding code_table_computes reads
unsigned = refl

unsigned_of_two_bytes : reads Uleb "80 01" ≡ Ok (Num 128, 3)
unfolding code_table_computes reads
unsigned_of_two_bytes = refl

signed : reads Sleb "80 7f" ≡ Ok (Signed (negsuc 127), 3)
unfolding code_table_computes reads
signed = refl

signed_127 : reads Sleb "ff 00" ≡ Ok (Signed (pos 127), 3)
unfolding code_table_computes reads
signed_127 = refl

text : reads ZeroText "61 62 00" ≡ Ok (Run 1 2, 4)
unfolding code_table_computes reads
text = refl

block_by_one_byte : reads Block1 "02 61 62" ≡ Ok (Run 2 2, 4)
unfolding code_table_computes reads
block_by_one_byte = refl

block_by_two_bytes : reads Block2 "0200 61 62" ≡ Ok (Run 3 2, 5)
unfolding code_table_computes reads
block_by_two_bytes = refl

block_by_four_bytes : reads Block4 "02000000 61 62" ≡ Ok (Run 5 2, 7)
unfolding code_table_computes reads
block_by_four_bytes = refl

block_by_a_leb128 : reads BlockUleb "8200 61 62" ≡ Ok (Run 3 2, 5)
unfolding code_table_computes reads
block_by_a_leb128 = refl

no_byte : reads U8 "" ≡ Err (Ends 1)
unfolding code_table_computes reads
no_byte = refl

one_byte_of_two : reads U16 "01" ≡ Err (Ends 1)
unfolding code_table_computes reads
one_byte_of_two = refl

two_bytes_of_three : reads U24 "01 02" ≡ Err (Ends 1)
unfolding code_table_computes reads
two_bytes_of_three = refl

three_bytes_of_four : reads U32 "01 02 03" ≡ Err (Ends 1)
unfolding code_table_computes reads
three_bytes_of_four = refl

seven_bytes_of_eight : reads U64 "01 02 03 04 05 06 07" ≡ Err (Ends 1)
unfolding code_table_computes reads
seven_bytes_of_eight = refl

fifteen_bytes_of_sixteen : reads Bytes16 "30313233 34353637 38396162 636465" ≡ Err (Ends 1)
unfolding code_table_computes reads
fifteen_bytes_of_sixteen = refl

a_cut_unsigned : reads Uleb "80" ≡ Err (Ends 1)
unfolding code_table_computes reads
a_cut_unsigned = refl

an_unsigned_of_eleven_bytes : reads Uleb "80808080 80808080 8080 00" ≡ Err (LebLong 1)
unfolding code_table_computes reads
an_unsigned_of_eleven_bytes = refl

a_signed_of_eleven_bytes : reads Sleb "80808080 80808080 8080 00" ≡ Err (LebLong 1)
unfolding code_table_computes reads
a_signed_of_eleven_bytes = refl

a_text_without_a_zero : reads ZeroText "61 62" ≡ Err (NoZero 1)
unfolding code_table_computes reads
a_text_without_a_zero = refl

a_cut_length : reads Block1 "" ≡ Err (Ends 1)
unfolding code_table_computes reads
a_cut_length = refl

a_cut_block_by_one_byte : reads Block1 "02 61" ≡ Err (Ends 2)
unfolding code_table_computes reads
a_cut_block_by_one_byte = refl

a_cut_block_by_two_bytes : reads Block2 "0200 61" ≡ Err (Ends 3)
unfolding code_table_computes reads
a_cut_block_by_two_bytes = refl

a_cut_block_by_four_bytes : reads Block4 "02000000 61" ≡ Err (Ends 5)
unfolding code_table_computes reads
a_cut_block_by_four_bytes = refl

a_cut_block_by_a_leb128 : reads BlockUleb "8200 61" ≡ Err (Ends 3)
unfolding code_table_computes reads
a_cut_block_by_a_leb128 = refl

a_cut_leb128_of_a_block : reads BlockUleb "82" ≡ Err (Ends 1)
unfolding code_table_computes reads
a_cut_leb128_of_a_block = refl

both_operands : reads_both Uleb BlockUleb "06 02 70 80" ≡ Ok (Num 6, Run 3 2)
unfolding code_table_computes reads_both
both_operands = refl

a_second_operand_that_is_cut : reads_both Uleb BlockUleb "06 02 70" ≡ Err (Ends 3)
unfolding code_table_computes reads_both
a_second_operand_that_is_cut = refl

-- Codes between and after those of the table, and the opcodes with an operand in their low six
-- bits, have no row.
no_opcode_17 : shape_of 0x17 frame_opcodes ≡ None
unfolding code_table_computes
no_opcode_17 = refl

no_opcode_2d : shape_of 0x2d frame_opcodes ≡ None
unfolding code_table_computes
no_opcode_2d = refl

no_opcode_2f : shape_of 0x2f frame_opcodes ≡ None
unfolding code_table_computes
no_opcode_2f = refl

no_row_of_advance_loc : shape_of 0x40 frame_opcodes ≡ None
unfolding code_table_computes
no_row_of_advance_loc = refl

no_row_of_offset : shape_of 0x80 frame_opcodes ≡ None
unfolding code_table_computes
no_row_of_offset = refl

no_row_of_restore : shape_of 0xc0 frame_opcodes ≡ None
unfolding code_table_computes
no_row_of_restore = refl

row_of_remember_state : shape_of 0x0a frame_opcodes ≡ Some (record { first = Nothing; second = Nothing })
unfolding code_table_computes
row_of_remember_state = refl

row_of_args_size : shape_of 0x2e frame_opcodes ≡ Some (record { first = Uleb; second = Nothing })
unfolding code_table_computes
row_of_args_size = refl

-- For opcodes of expressions: codes between and after those of the table, and the rows at the ends
-- of its ranges.
no_expression_opcode_03 : shape_of 0x03 expr_opcodes ≡ None
unfolding code_table_computes
no_expression_opcode_03 = refl

no_expression_opcode_07 : shape_of 0x07 expr_opcodes ≡ None
unfolding code_table_computes
no_expression_opcode_07 = refl

no_expression_opcode_12 : shape_of 0x12 expr_opcodes ≡ None
unfolding code_table_computes
no_expression_opcode_12 = refl

no_expression_opcode_50 : shape_of 0x50 expr_opcodes ≡ None
unfolding code_table_computes
no_expression_opcode_50 = refl

no_expression_opcode_6f : shape_of 0x6f expr_opcodes ≡ None
unfolding code_table_computes
no_expression_opcode_6f = refl

no_expression_opcode_90 : shape_of 0x90 expr_opcodes ≡ None
unfolding code_table_computes
no_expression_opcode_90 = refl

row_of_plus_uconst : shape_of 0x23 expr_opcodes ≡ Some (record { first = Uleb; second = Nothing })
unfolding code_table_computes
row_of_plus_uconst = refl

row_of_lit31 : shape_of 0x4f expr_opcodes ≡ Some (record { first = Nothing; second = Nothing })
unfolding code_table_computes
row_of_lit31 = refl

row_of_breg31 : shape_of 0x8f expr_opcodes ≡ Some (record { first = Sleb; second = Nothing })
unfolding code_table_computes
row_of_breg31 = refl
