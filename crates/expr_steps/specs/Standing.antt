-- Which expressions rule text can express. They are made of steps, each step finds its values on
-- the stack, one value is left, and the steps take at most 1,024 words.
use Rattle.std.specs.Prelude.{ℕ, ◌+◌, ◌-◌, ◌==◌, ◌&&◌, nat_le, Bool, true, false, if◌then◌else◌, List, [], ◌∷◌, Option, None, Some}
use Rattle.std.specs.List.{sum_by}
use Rattle.std.specs.Option.{option_and_then}
use Rattle.sym_edges.specs.Integers.{fits_i64}
use Rattle.expr_steps.specs.declared.step.Step.{Step}
use Rattle.expr_steps.specs.declared.step.Step.TheVariants.{Constant, Register, Fetch, Add, Subtract, Multiply, AddConstant, Remainder, Product, Reaches}
use Rattle.expr_steps.specs.declared.standing.Standing.{Standing}
use Rattle.expr_steps.specs.declared.standing.Standing.TheVariants.{Free, OverCfa}
use Rattle.expr_steps.specs.Steps.{steps}

-- how many values a step takes from the stack
abbrev pub takes : Step → ℕ
takes (Constant value) = 0
takes (Register register offset) = 0
takes Fetch = 1
takes Add = 2
takes Subtract = 2
takes Multiply = 2
takes (AddConstant addend) = 1
takes (Remainder size) = 1
takes (Product factor) = 1
takes (Reaches lift size) = 1

-- how many words of rule text express a step
abbrev pub words : Step → ℕ
words (Constant value) = 1
words (Register register offset) = 3
words Fetch = 1
words Add = 1
words Subtract = 1
words Multiply = 1
words (AddConstant addend) = 2
words (Remainder size) = 2
words (Product factor) = 2
words (Reaches lift size) = 4

-- how many values are on the stack after a step, or none if the stack has fewer values than the
-- step takes; the step leaves one value
abbrev pub after_step : Step → ℕ → Option ℕ
after_step s depth = if nat_le (takes s) depth then Some (depth - takes s + 1) else None

-- how many values are on the stack after all steps
unfoldable pub depth_after : List Step → Option ℕ → Option ℕ
depth_after [] depth = depth
depth_after (s ∷ later) depth = depth_after later (option_and_then (after_step s) depth)

abbrev pub is_one : Option ℕ → Bool
is_one None = false
is_one (Some depth) = depth == 1

-- how an expression uses the CFA, given the count of the words of its steps, and how many values
-- the steps leave on an empty stack (`free`) and on a stack with the CFA (`over`). It is `Free` if
-- they leave one value on the empty stack. Otherwise it is `OverCfa`, if the CFA may be on the
-- stack and they leave one value in place of the CFA, which is one more word. There may be at most
-- 1,024 words
unfoldable pub standing_by : Bool → ℕ → Option ℕ → Option ℕ → Option Standing
standing_by start count free over =
    if is_one free && nat_le count 1024 then Some Free else
    if start && is_one over && nat_le (count + 1) 1024 then Some OverCfa else None

unfoldable pub standing_of : Bool → List Step → Option Standing
standing_of start given = standing_by start (sum_by words given) (depth_after given (Some 0)) (depth_after given (Some 1))

-- how an expression uses the CFA, or none if rule text cannot express it; `start` says that the CFA
-- may be on the stack
unfoldable pub standing : Bool → List ℕ → Option Standing
standing start bytes = option_and_then (standing_of start) (steps bytes)

-- the register of a step is one of the sixteen general registers or rip, and its offset is a signed
-- number of 64 bits
abbrev pub has_bounds : Step → Bool
has_bounds (Constant value) = true
has_bounds (Register register offset) = nat_le register 16 && fits_i64 offset
has_bounds Fetch = true
has_bounds Add = true
has_bounds Subtract = true
has_bounds Multiply = true
has_bounds (AddConstant addend) = true
has_bounds (Remainder size) = true
has_bounds (Product factor) = true
has_bounds (Reaches lift size) = true
