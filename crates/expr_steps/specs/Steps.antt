-- The steps of an expression that rule text can express. Each is one operation, or a constant with
-- the operation directly after it. `and` with 2^k - 1 is the remainder of a division by 2^k. `shl`
-- is a multiplication by a power of two. `ge` compares a value with a constant, directly after an
-- `and` has made the value less than a power of two. So after the power minus the constant is
-- added, a division by the power gives the result.
use Rattle.std.specs.Prelude.{ℕ, zero, suc, ◌-◌, ◌^◌, ◌==◌, nat_le, if◌then◌else◌, List, [], ◌∷◌, Option, None, Some}
use Rattle.std.specs.Option.{option_and_then}
use Rattle.leb_cursor.specs.Ahead.{Ahead}
use Rattle.expr_steps.specs.declared.operation.Operation.{Operation}
use Rattle.expr_steps.specs.declared.operation.Operation.TheVariants.{Constant, Breg, Deref, And, Minus, Mul, Plus, PlusUconst, Shl, Ge}
use Rattle.expr_steps.specs.declared.step.Step.{Step}
use Rattle.expr_steps.specs.declared.step.Step.TheVariants as step
use Rattle.expr_steps.specs.Operations.{operations, operations_at}

-- a step, and then the later steps
abbrev pub in_front : Step → Option (List Step) → Option (List Step)
in_front s None = None
in_front s (Some steps) = Some (s ∷ steps)

-- the power of two that is one more than the constant `c`, if it is below 2^n
unfoldable pub mask_size : ℕ → ℕ → Option ℕ
mask_size zero c = None
mask_size (suc n) c = if c == 2 ^ n - 1 then Some (2 ^ n) else mask_size n c

-- a constant and `and`: the constant must be 2^k - 1, for a k from 0 to 62
abbrev pub with_and : Option ℕ → (Option ℕ → Option (List Step)) → Option (List Step)
with_and None later = None
with_and (Some size) later = in_front (step.Remainder size) (later (Some size))

-- a constant and `shl`: the constant must be at most 62
abbrev pub with_shl : ℕ → Option (List Step) → Option (List Step)
with_shl c later = if nat_le c 62 then in_front (step.Product (2 ^ c)) later else None

-- a constant and `ge`, directly after an `and`: the constant must be at most the power of two of this `and`
abbrev pub with_ge : ℕ → Option ℕ → Option (List Step) → Option (List Step)
with_ge c None later = None
with_ge c (Some size) later = if nat_le c size then in_front (step.Reaches (size - c) size) later else None

-- the step of an operation alone; its register must be one of the sixteen general registers, or rip
-- with the number 16
abbrev pub step_alone : Operation → Option Step
step_alone (Constant value) = Some (step.Constant value)
step_alone (Breg register offset) = if nat_le register 16 then Some (step.Register register offset) else None
step_alone Deref = Some step.Fetch
step_alone Plus = Some step.Add
step_alone Minus = Some step.Subtract
step_alone Mul = Some step.Multiply
step_alone (PlusUconst addend) = Some (step.AddConstant addend)
step_alone And = None
step_alone Shl = None
step_alone Ge = None

abbrev pub with_alone : Option Step → Option (List Step) → Option (List Step)
with_alone None later = None
with_alone (Some s) later = in_front s later

-- the steps of operations, or none if an operation is in no step. If the step before them was an
-- `and`, `kept` is its power of two
unfoldable pub steps_of : List Operation → Option ℕ → Option (List Step)
steps_of [] kept = Some []
steps_of (Constant c ∷ And ∷ later) kept = with_and (mask_size 63 c) (steps_of later)
steps_of (Constant c ∷ Shl ∷ later) kept = with_shl c (steps_of later None)
steps_of (Constant c ∷ Ge ∷ later) kept = with_ge c kept (steps_of later None)
steps_of (operation ∷ later) kept = with_alone (step_alone operation) (steps_of later None)

-- the steps of the operations ahead
unfoldable pub steps_at : Option ℕ → Ahead → Option (List Step)
steps_at kept c = option_and_then (λ ops. steps_of ops kept) (operations_at c)

-- the steps of an expression
unfoldable pub steps : List ℕ → Option (List Step)
steps bytes = option_and_then (λ ops. steps_of ops None) (operations bytes)
