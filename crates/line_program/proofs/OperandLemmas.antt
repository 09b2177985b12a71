-- A standard opcode has the operands that the standard gives it (for
-- `operands_are_those_of_the_table`).
use Rattle.std.proofs.Common.{ℕ, List, refl}
use Rattle.std.specs.List.{All}
use Rattle.leb_cursor.specs.Readings.{fixed_at, uleb_at, sleb_at}
use Rattle.code_table.specs.LineOps.{line_opcodes}
use Rattle.code_table.specs.Layouts.{kind_at, shape_at}
use Rattle.code_table.specs.Operands.{TakesOperands}
use Rattle.code_table.proofs.TakenLemmas.{one_number, one_signed, Taken, none, ◌then◌}
use Rattle.line_program.specs.Opcodes.{standard_at}

each_taken : (lengths : List ℕ) → Taken (TakesOperands (standard_at lengths)) line_opcodes
unfolding line_opcodes standard_at shape_at kind_at
each_taken lengths =
    (λ c. refl)
    then (λ c. one_number _ _ (uleb_at c))
    then (λ c. one_signed _ _ (sleb_at c))
    then (λ c. one_number _ _ (uleb_at c))
    then (λ c. one_number _ _ (uleb_at c))
    then (λ c. refl)
    then (λ c. refl)
    then (λ c. refl)
    then (λ c. one_number _ _ (fixed_at 2 c))
    then (λ c. refl)
    then (λ c. refl)
    then (λ c. one_number _ _ (uleb_at c))
    then none

pub operands_taken : (lengths : List ℕ) → All (TakesOperands (standard_at lengths)) line_opcodes
operands_taken lengths = (each_taken lengths).all
