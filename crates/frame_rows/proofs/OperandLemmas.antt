-- An instruction takes the operands that the table of opcodes gives it. The lemmas are for
-- `operands_are_those_of_the_table`.
use Rattle.std.proofs.Common.{◌≡◌, ℕ, ℤ, List, [], ◌∷◌, map, length, Option, Some, None, IfSome, Result, Ok, Err, refl, ap, ◌∙◌, subst}
use Rattle.std.specs.List.{All}
use Rattle.std.proofs.lemmas.List.Elements.{All-nil, All-cons}
use Rattle.sym_edges.specs.Results.{◌>>=◌}
use Rattle.leb_cursor.specs.declared.fault.CursorFault.{CursorFault}
use Rattle.leb_cursor.specs.Ahead.{Ahead}
use Rattle.leb_cursor.specs.Readings.{fixed_at, uleb_at, sleb_at, take_at}
use Rattle.code_table.specs.declared.kind.Kind.{Kind}
use Rattle.code_table.specs.declared.kind.Kind.TheVariants as kind
use Rattle.code_table.specs.declared.kind.Shape.{Shape}
use Rattle.code_table.specs.declared.kind.Operand.TheVariants.{Run}
use Rattle.code_table.specs.declared.code_row.CodeRow.{CodeRow}
use Rattle.code_table.specs.FrameOps.{frame_opcodes, plain_opcodes}
use Rattle.code_table.specs.Layouts.{number_in, block_in, run_at, kind_at, shape_at}
use Rattle.code_table.specs.Operands.{left, TakesOperands}
use Rattle.code_table.proofs.TakenLemmas.{signed_in}
use Rattle.frame_rows.specs.declared.instruction.Block.{Block}
use Rattle.frame_rows.specs.Instructions.{or_instruction, block_at, Operand, Ubyte, Uhalf, Uword, Uleb, Sleb, Exprloc, operand_at, Form, Alone, One, Two, Pointer, Unknown, form_at, extended_form, extended_at}

-- The layout of an operand, and the layouts of a form's operands.
abbrev layout : Operand → Kind
layout Ubyte = kind.U8
layout Uhalf = kind.U16
layout Uword = kind.U32
layout Uleb = kind.Uleb
layout Sleb = kind.Sleb
layout Exprloc = kind.BlockUleb

abbrev shape : Form → Option Shape
shape (Alone instruction) = Some (record { first = kind.Nothing; second = kind.Nothing })
shape (One operand make) = Some (record { first = layout operand; second = kind.Nothing })
shape (Two first second make) = Some (record { first = layout first; second = layout second })
shape (Pointer make) = None
shape Unknown = None

-- Readings that leave the same bytes ahead.
number_left : (reading : Result (ℕ × Ahead) CursorFault) → left (or_instruction reading) ≡ left (number_in reading)
number_left (Ok x) = refl
number_left (Err fault) = refl

signed_left : (reading : Result (ℤ × Ahead) CursorFault) → left (or_instruction reading) ≡ left (signed_in reading)
signed_left (Ok x) = refl
signed_left (Err fault) = refl

then_left : {A B C D E F : Type 0} (r : Result (A × Ahead) E) (s : Result (B × Ahead) F) (f : A × Ahead → Result (C × Ahead) E) (g : B × Ahead → Result (D × Ahead) F) → left r ≡ left s → ((x : A × Ahead) (y : B × Ahead) → x.1 ≡ y.1 → left (f x) ≡ left (g y)) → left (r >>= f) ≡ left (s >>= g)
then_left (Ok x) (Ok y) f g is later = later x y cc
then_left (Ok x) (Err fault) f g is later = cc
then_left (Err why) (Ok y) f g is later = cc
then_left (Err why) (Err fault) f g is later = refl

run_left : (n : ℕ) (start : ℕ) (reading : Result (List ℕ × Ahead) CursorFault) → left (or_instruction reading >>= λ run. Ok ((let b : Block = record { start = start; len = n } in b), run.1)) ≡ left (reading >>= λ run. Ok (Run start (length run.0), run.1))
run_left n start (Ok run) = refl
run_left n start (Err fault) = refl

block_left : (reading : Result (ℕ × Ahead) CursorFault) → left (or_instruction reading >>= λ len. or_instruction (take_at len.0 len.1) >>= λ run. Ok ((let b : Block = record { start = len.1.at; len = len.0 } in b), run.1)) ≡ left (block_in reading)
unfolding run_at
block_left (Ok len) = run_left len.0 len.1.at (take_at len.0 len.1)
block_left (Err fault) = refl

operand_left : (operand : Operand) (c : Ahead) → left (operand_at operand c) ≡ left (kind_at (layout operand) c)
unfolding operand_at block_at kind_at
operand_left Ubyte c = number_left (fixed_at 1 c)
operand_left Uhalf c = number_left (fixed_at 2 c)
operand_left Uword c = number_left (fixed_at 4 c)
operand_left Uleb c = number_left (uleb_at c)
operand_left Sleb c = signed_left (sleb_at c)
operand_left Exprloc c = block_left (uleb_at c)

form_left : (encoding base : ℕ) (form : Form) (c : Ahead) → IfSome (shape form) (λ s. left (form_at encoding base form c) ≡ left (shape_at s c))
unfolding form_at shape_at kind_at
form_left encoding base (Alone instruction) c = refl
form_left encoding base (One operand make) c = then_left (operand_at operand c) (kind_at (layout operand) c) _ _ (operand_left operand c) (λ x y is. ap Some is)
form_left encoding base (Two first second make) c =
    then_left (operand_at first c) (kind_at (layout first) c) _ _ (operand_left first c)
    (λ x y is. then_left (operand_at second x.1) (kind_at (layout second) y.1) _ _ (operand_left second x.1 ∙ ap (λ d. left (kind_at (layout second) d)) is) (λ v w same. ap Some same))
form_left encoding base (Pointer make) c = tt
form_left encoding base Unknown c = tt

-- If the form of an opcode has the layouts of the opcode's row, the instruction takes the operands
-- of the row.
row_taken : (encoding base : ℕ) (row : CodeRow) → shape (extended_form row.code) ≡ Some row.shape → TakesOperands (extended_at encoding base) row
row_taken encoding base row is = λ c. subst (λ o. IfSome o (λ s. left (extended_at encoding base row.code c) ≡ left (shape_at s c))) is (form_left encoding base (extended_form row.code) c)

rows_taken : (encoding base : ℕ) (rows : List CodeRow) → map (λ row. shape (extended_form row.code)) rows ≡ map (λ row. Some row.shape) rows → All (TakesOperands (extended_at encoding base)) rows
rows_taken encoding base [] is = All-nil (TakesOperands (extended_at encoding base))
rows_taken encoding base (row ∷ rows) is = All-cons (TakesOperands (extended_at encoding base)) row rows (row_taken encoding base row cc) (rows_taken encoding base rows cc)

same_shapes : map (λ row. shape (extended_form row.code)) plain_opcodes ≡ map (λ row. Some row.shape) plain_opcodes
unfolding plain_opcodes frame_opcodes extended_form
same_shapes = refl

pub operands_taken : (encoding base : ℕ) → All (TakesOperands (extended_at encoding base)) plain_opcodes
operands_taken encoding base = rows_taken encoding base plain_opcodes same_shapes
