-- An operation takes the operands that the table of opcodes gives it; for `operands_are_those_of_the_table`.
use Rattle.std.proofs.Common.{refl}
use Rattle.std.specs.List.{All}
use Rattle.leb_cursor.specs.Readings.{fixed_at, uleb_at, sleb_at}
use Rattle.code_table.specs.ExprOps.{expr_opcodes}
use Rattle.code_table.specs.Layouts.{kind_at, shape_at}
use Rattle.code_table.specs.Operands.{TakesOperands}
use Rattle.code_table.proofs.TakenLemmas.{one_number, one_signed, Taken, none, ◌then◌}
use Rattle.expr_steps.specs.Operations.{behind_opcode}

each_taken : Taken (TakesOperands behind_opcode) expr_opcodes
unfolding expr_opcodes behind_opcode shape_at kind_at
each_taken =
    (λ c. refl)  -- DW_OP_deref
    then (λ c. one_number _ _ (fixed_at 1 c))
    then (λ c. one_number _ _ (fixed_at 1 c))
    then (λ c. one_number _ _ (fixed_at 2 c))
    then (λ c. one_number _ _ (fixed_at 2 c))
    then (λ c. one_number _ _ (fixed_at 4 c))
    then (λ c. one_number _ _ (fixed_at 4 c))
    then (λ c. one_number _ _ (fixed_at 8 c))
    then (λ c. one_number _ _ (fixed_at 8 c))
    then (λ c. one_number _ _ (uleb_at c))
    then (λ c. one_signed _ _ (sleb_at c))
    then (λ c. refl)  -- DW_OP_and
    then (λ c. refl)
    then (λ c. refl)
    then (λ c. refl)
    then (λ c. one_number _ _ (uleb_at c))  -- DW_OP_plus_uconst
    then (λ c. refl)
    then (λ c. refl)  -- DW_OP_ge
    then (λ c. refl)
    then (λ c. refl)
    then (λ c. refl)
    then (λ c. refl)
    then (λ c. refl)
    then (λ c. refl)
    then (λ c. refl)
    then (λ c. refl)
    then (λ c. refl)
    then (λ c. refl)
    then (λ c. refl)
    then (λ c. refl)
    then (λ c. refl)
    then (λ c. refl)
    then (λ c. refl)
    then (λ c. refl)
    then (λ c. refl)
    then (λ c. refl)
    then (λ c. refl)
    then (λ c. refl)
    then (λ c. refl)
    then (λ c. refl)
    then (λ c. refl)
    then (λ c. refl)
    then (λ c. refl)
    then (λ c. refl)
    then (λ c. refl)
    then (λ c. refl)
    then (λ c. refl)
    then (λ c. refl)
    then (λ c. refl)
    then (λ c. refl)
    then (λ c. one_signed _ _ (sleb_at c))
    then (λ c. one_signed _ _ (sleb_at c))
    then (λ c. one_signed _ _ (sleb_at c))
    then (λ c. one_signed _ _ (sleb_at c))
    then (λ c. one_signed _ _ (sleb_at c))
    then (λ c. one_signed _ _ (sleb_at c))
    then (λ c. one_signed _ _ (sleb_at c))
    then (λ c. one_signed _ _ (sleb_at c))
    then (λ c. one_signed _ _ (sleb_at c))
    then (λ c. one_signed _ _ (sleb_at c))
    then (λ c. one_signed _ _ (sleb_at c))
    then (λ c. one_signed _ _ (sleb_at c))
    then (λ c. one_signed _ _ (sleb_at c))
    then (λ c. one_signed _ _ (sleb_at c))
    then (λ c. one_signed _ _ (sleb_at c))
    then (λ c. one_signed _ _ (sleb_at c))
    then (λ c. one_signed _ _ (sleb_at c))
    then (λ c. one_signed _ _ (sleb_at c))
    then (λ c. one_signed _ _ (sleb_at c))
    then (λ c. one_signed _ _ (sleb_at c))
    then (λ c. one_signed _ _ (sleb_at c))
    then (λ c. one_signed _ _ (sleb_at c))
    then (λ c. one_signed _ _ (sleb_at c))
    then (λ c. one_signed _ _ (sleb_at c))
    then (λ c. one_signed _ _ (sleb_at c))
    then (λ c. one_signed _ _ (sleb_at c))
    then (λ c. one_signed _ _ (sleb_at c))
    then (λ c. one_signed _ _ (sleb_at c))
    then (λ c. one_signed _ _ (sleb_at c))
    then (λ c. one_signed _ _ (sleb_at c))
    then (λ c. one_signed _ _ (sleb_at c))
    then (λ c. one_signed _ _ (sleb_at c))
    then none

pub operands_taken : All (TakesOperands behind_opcode) expr_opcodes
operands_taken = each_taken.all
