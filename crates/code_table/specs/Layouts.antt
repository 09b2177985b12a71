-- How the operands of a code are read by their layouts, one after the other (DWARF 5, sections
-- 6.4.2 and 7.5.6).
use Rattle.std.specs.Prelude.{ℕ, length, Result, Ok}
use Rattle.leb_cursor.specs.declared.fault.CursorFault.{CursorFault}
use Rattle.sym_edges.specs.Results.{◌>>=◌}
use Rattle.leb_cursor.specs.Ahead.{Ahead}
use Rattle.leb_cursor.specs.Readings.{fixed_at, uleb_at, sleb_at, text_at, take_at}
use Rattle.code_table.specs.declared.kind.Kind.{Kind}
use Rattle.code_table.specs.declared.kind.Kind.TheVariants.{Nothing, U8, U16, U24, U32, U64, Bytes16, Uleb, Sleb, ZeroText, Block1, Block2, Block4, BlockUleb}
use Rattle.code_table.specs.declared.kind.Shape.{Shape}
use Rattle.code_table.specs.declared.kind.Operand.{Operand}
use Rattle.code_table.specs.declared.kind.Operand.TheVariants.{Nothing as NoOperand, Num, Signed, Run}
use Rattle.code_table.specs.declared.kind.Operands.{Operands}

-- a number that was read, as an operand
abbrev pub number_in : Result (ℕ × Ahead) CursorFault → Result (Operand × Ahead) CursorFault
number_in reading = reading >>= λ number. Ok (Num number.0, number.1)

-- the next n bytes: their place and their count
unfoldable pub run_at : ℕ → Ahead → Result (Operand × Ahead) CursorFault
run_at n c = take_at n c >>= λ run. Ok (Run c.at (length run.0), run.1)

-- a block: a number, and as many bytes as this number says
abbrev pub block_in : Result (ℕ × Ahead) CursorFault → Result (Operand × Ahead) CursorFault
block_in reading = reading >>= λ count. run_at count.0 count.1

-- an operand, read by its layout
unfoldable pub kind_at : Kind → Ahead → Result (Operand × Ahead) CursorFault
kind_at Nothing c = Ok (NoOperand, c)
kind_at U8 c = number_in (fixed_at 1 c)
kind_at U16 c = number_in (fixed_at 2 c)
kind_at U24 c = number_in (fixed_at 3 c)
kind_at U32 c = number_in (fixed_at 4 c)
kind_at U64 c = number_in (fixed_at 8 c)
kind_at Bytes16 c = run_at 16 c
kind_at Uleb c = number_in (uleb_at c)
kind_at Sleb c = sleb_at c >>= λ number. Ok (Signed number.0, number.1)
kind_at ZeroText c = text_at c >>= λ text. Ok (Run c.at (length text.0), text.1)
kind_at Block1 c = block_in (fixed_at 1 c)
kind_at Block2 c = block_in (fixed_at 2 c)
kind_at Block4 c = block_in (fixed_at 4 c)
kind_at BlockUleb c = block_in (uleb_at c)

-- the two operands of a shape; the first one that is refused gives the fault
unfoldable pub shape_at : Shape → Ahead → Result (Operands × Ahead) CursorFault
shape_at shape c =
    kind_at shape.first c >>= λ first.
    kind_at shape.second first.1 >>= λ second.
    Ok (record { first = first.0; second = second.0 }, second.1)
