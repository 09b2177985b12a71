-- That an operation takes the operands of its row; for the laws `operands_are_those_of_the_table`
-- of line_program, frame_rows and expr_steps.
use Rattle.std.proofs.Common.{◌≡◌, ℕ, ℤ, List, [], ◌∷◌, Result, Ok, Err, refl}
use Rattle.std.specs.List.{All}
use Rattle.std.proofs.lemmas.List.Elements.{All-nil, All-cons}
use Rattle.sym_edges.specs.Results.{◌>>=◌}
use Rattle.leb_cursor.specs.declared.fault.CursorFault.{CursorFault}
use Rattle.leb_cursor.specs.Ahead.{Ahead}
use Rattle.code_table.specs.declared.kind.Kind.TheVariants.{Nothing}
use Rattle.code_table.specs.declared.kind.Operand.{Operand}
use Rattle.code_table.specs.declared.kind.Operand.TheVariants.{Signed}
use Rattle.code_table.specs.declared.kind.Operands.{Operands}
use Rattle.code_table.specs.declared.code_row.CodeRow.{CodeRow}
use Rattle.code_table.specs.Layouts.{number_in, kind_at}
use Rattle.code_table.specs.Operands.{left}

-- A reading whose fault `why` turns into a fault of the caller.
abbrev pub told : {A E : Type 0} → (CursorFault → E) → Result A CursorFault → Result A E
told why (Ok x) = Ok x
told why (Err fault) = Err (why fault)

-- The two operands of a shape, given the result for the first.
abbrev pub both : Result (Operand × Ahead) CursorFault → (Ahead → Result (Operand × Ahead) CursorFault) → Result (Operands × Ahead) CursorFault
both first second = first >>= λ x. second x.1 >>= λ y. Ok (record { first = x.0; second = y.0 }, y.1)

abbrev pub signed_in : Result (ℤ × Ahead) CursorFault → Result (Operand × Ahead) CursorFault
signed_in reading = reading >>= λ number. Ok (Signed number.0, number.1)

pub one_number : {A E : Type 0} (why : CursorFault → E) (make : ℕ → A) (reading : Result (ℕ × Ahead) CursorFault) → left (told why reading >>= λ x. Ok (make x.0, x.1)) ≡ left (both (number_in reading) (kind_at Nothing))
unfolding kind_at
one_number why make (Ok x) = refl
one_number why make (Err fault) = refl

pub one_signed : {A E : Type 0} (why : CursorFault → E) (make : ℤ → A) (reading : Result (ℤ × Ahead) CursorFault) → left (told why reading >>= λ x. Ok (make x.0, x.1)) ≡ left (both (signed_in reading) (kind_at Nothing))
unfolding kind_at
one_signed why make (Ok x) = refl
one_signed why make (Err fault) = refl

-- `P` holds for each row of a table.
pub record Taken (P : CodeRow → Type 0) (rows : List CodeRow) : Type 0 where
  pub all : All P rows

pub none : {P : CodeRow → Type 0} → Taken P []
none {P} = record { all = All-nil P }

-- If `P` holds for a row and for the rows after it, it holds for all of them.
infixr 5 ◌then◌
pub ◌then◌ : {P : CodeRow → Type 0} {row : CodeRow} {rows : List CodeRow} → P row → Taken P rows → Taken P (row ∷ rows)
◌then◌ {P} fact later = record { all = All-cons P _ _ fact later.all }
