-- The operands of a shape lie among the bytes that are ahead.
use Rattle.std.proofs.Common.{ℕ, length, Result, Ok, Err, refl, arith}
use Rattle.leb_cursor.specs.declared.fault.CursorFault.{CursorFault}
use Rattle.sym_edges.specs.Results.{◌>>=◌}
use Rattle.leb_cursor.specs.Ahead.{Ahead}
use Rattle.leb_cursor.specs.Passes.{Passes}
use Rattle.leb_cursor.specs.Readings.{fixed_at, uleb_at, sleb_at, text_at, take_at}
use Rattle.leb_cursor.proofs.PassLemmas.{fixed_passes, uleb_passes, sleb_passes, text_passes, take_passes, passes_then}
use Rattle.code_table.specs.declared.kind.Kind.{Kind}
use Rattle.code_table.specs.declared.kind.Kind.TheVariants.{Nothing, U8, U16, U24, U32, U64, Bytes16, Uleb, Sleb, ZeroText, Block1, Block2, Block4, BlockUleb}
use Rattle.code_table.specs.declared.kind.Shape.{Shape}
use Rattle.code_table.specs.declared.kind.Operand.TheVariants.{Num, Signed, Run}
use Rattle.code_table.specs.Layouts.{number_in, run_at, block_in, kind_at, shape_at}

-- A reading that passes at least `least` bytes passes at least zero.
passes_any : {A E : Type 0} (reading : Result (A × Ahead) E) (least : ℕ) (c : Ahead) → Passes least c reading → Passes 0 c reading
passes_any (Ok x) least c goes = (omega (arith, goes.0), goes.1)
passes_any (Err fault) least c goes = tt

-- Making a value from what was read passes no more bytes.
passes_map : {A B E : Type 0} (make : A × Ahead → B) (reading : Result (A × Ahead) E) (c : Ahead) → Passes 0 c reading → Passes 0 c (reading >>= λ x. Ok (make x, x.1))
passes_map make (Ok x) c goes = goes
passes_map make (Err fault) c goes = tt

run_passes : (n : ℕ) (c : Ahead) → Passes 0 c (run_at n c)
unfolding run_at
run_passes n c = passes_map (λ run. Run c.at (length run.0)) (take_at n c) c (passes_any (take_at n c) n c (take_passes n c))

block_passes : (reading : Result (ℕ × Ahead) CursorFault) (c : Ahead) → Passes 0 c reading → Passes 0 c (block_in reading)
block_passes reading c goes = passes_then reading (λ count. run_at count.0 count.1) 0 0 c goes (λ count. run_passes count.0 count.1)

number_passes : (reading : Result (ℕ × Ahead) CursorFault) (c : Ahead) → Passes 0 c reading → Passes 0 c (number_in reading)
number_passes reading c goes = passes_map (λ number. Num number.0) reading c goes

fixed_any : (width : ℕ) (c : Ahead) → Passes 0 c (fixed_at width c)
fixed_any width c = passes_any (fixed_at width c) width c (fixed_passes width c)

uleb_any : (c : Ahead) → Passes 0 c (uleb_at c)
uleb_any c = passes_any (uleb_at c) 1 c (uleb_passes c)

pub kind_passes : (kind : Kind) (c : Ahead) → Passes 0 c (kind_at kind c)
unfolding kind_at
kind_passes Nothing c = (omega arith, refl)
kind_passes U8 c = number_passes (fixed_at 1 c) c (fixed_any 1 c)
kind_passes U16 c = number_passes (fixed_at 2 c) c (fixed_any 2 c)
kind_passes U24 c = number_passes (fixed_at 3 c) c (fixed_any 3 c)
kind_passes U32 c = number_passes (fixed_at 4 c) c (fixed_any 4 c)
kind_passes U64 c = number_passes (fixed_at 8 c) c (fixed_any 8 c)
kind_passes Bytes16 c = run_passes 16 c
kind_passes Uleb c = number_passes (uleb_at c) c (uleb_any c)
kind_passes Sleb c = passes_map (λ number. Signed number.0) (sleb_at c) c (passes_any (sleb_at c) 1 c (sleb_passes c))
kind_passes ZeroText c = passes_map (λ text. Run c.at (length text.0)) (text_at c) c (passes_any (text_at c) 1 c (text_passes c))
kind_passes Block1 c = block_passes (fixed_at 1 c) c (fixed_any 1 c)
kind_passes Block2 c = block_passes (fixed_at 2 c) c (fixed_any 2 c)
kind_passes Block4 c = block_passes (fixed_at 4 c) c (fixed_any 4 c)
kind_passes BlockUleb c = block_passes (uleb_at c) c (uleb_any c)

pub shape_passes : (shape : Shape) (c : Ahead) → Passes 0 c (shape_at shape c)
unfolding shape_at
shape_passes shape c =
    passes_then (kind_at shape.first c)
    (λ first. kind_at shape.second first.1 >>= λ second. Ok (record { first = first.0; second = second.0 }, second.1))
    0 0 c (kind_passes shape.first c)
    (λ first. passes_map (λ second. record { first = first.0; second = second.0 }) (kind_at shape.second first.1) first.1 (kind_passes shape.second first.1))
