-- The steps of a constant and the operations after it, and a loop over steps.
use Rattle.std.specs.Prelude.{◌≡◌, ℕ, ◌+◌, ◌≤◌, Bool, List, ◌∷◌, Option, None, Some}
use Rattle.std.specs.List.{sum_by}
use Rattle.std.specs.Option.{option_and_then}
use Rattle.leb_cursor.specs.Ahead.{Ahead}
use Rattle.expr_steps.specs.declared.operation.Operation.{Operation}
use Rattle.expr_steps.specs.declared.operation.Operation.TheVariants.{Constant, Breg, Deref, And, Minus, Mul, Plus, PlusUconst, Shl, Ge}
use Rattle.expr_steps.specs.declared.step.Step.{Step}
use Rattle.expr_steps.specs.declared.step.Step.TheVariants as step
use Rattle.expr_steps.specs.declared.standing.Standing.{Standing}
use Rattle.expr_steps.specs.Operations.{operations_at}
use Rattle.expr_steps.specs.Steps.{in_front, steps_of}
use Rattle.expr_steps.specs.Standing.{words, depth_after, standing_by}

-- the number that an operation pushes, if it pushes a constant
abbrev pub constant_of : Operation → Option ℕ
constant_of (Constant value) = Some value
constant_of (Breg register offset) = None
constant_of Deref = None
constant_of And = None
constant_of Minus = None
constant_of Mul = None
constant_of Plus = None
constant_of (PlusUconst addend) = None
constant_of Shl = None
constant_of Ge = None

-- a constant and the operation after it are one step, whatever operations follow
pub record IsPair (kept : Option ℕ) (value : ℕ) (operation : Operation) (s : Step) (keeps : Option ℕ) : Type 0 where
  pub steps : (later : List Operation) → steps_of (Constant value ∷ operation ∷ later) kept ≡ in_front s (steps_of later keeps)

-- the constant is a step alone, whatever operations follow
pub record IsAlone (kept : Option ℕ) (value : ℕ) (operation : Operation) : Type 0 where
  pub steps : (later : List Operation) → steps_of (Constant value ∷ operation ∷ later) kept ≡ in_front (step.Constant value) (steps_of (operation ∷ later) None)

-- neither the constant alone nor the constant with the operation is a step
pub record IsNoStep (kept : Option ℕ) (value : ℕ) (operation : Operation) : Type 0 where
  pub steps : (later : List Operation) → steps_of (Constant value ∷ operation ∷ later) kept ≡ None

-- the steps of an operation and of the operations ahead
unfoldable pub steps_behind : Operation → Option ℕ → Ahead → Option (List Step)
steps_behind operation kept c = option_and_then (λ ops. steps_of (operation ∷ ops) kept) (operations_at c)

-- a depth of the stack, if it is known, is at most `most`
abbrev pub IsAtMost : ℕ → Option ℕ → Type 0
IsAtMost most None = Unit {0}
IsAtMost most (Some depth) = depth ≤ most

-- how an expression uses the CFA, given the words and the depths of the steps that were read, and
-- the steps that are left
unfoldable pub stands : Bool → ℕ → Option ℕ → Option ℕ → List Step → Option Standing
stands start count free over given = standing_by start (count + sum_by words given) (depth_after given free) (depth_after given over)

unfoldable pub standing_behind : Bool → ℕ → Option ℕ → Option ℕ → Option (List Step) → Option Standing
standing_behind start count free over left = option_and_then (stands start count free over) left
