-- The value of a DWARF expression (DWARF 5, 2.5.1). Its operations are executed from left to right with a stack of numbers below 2^64, whose first
-- member is its top. The first operation that fails decides the failure, and the value is the number on top at the end. The standard always pushes
-- the CFA before the expression of a register's rule (6.4.2.3), and nothing before the expression of the CFA's own rule (6.4.2.2). An expression that
-- never pops a number from below its own has the same value with the CFA and without it. Here the stack of such an expression begins empty, so that
-- it has a value even if the CFA has none.
use Rattle.std.specs.Prelude.{ℕ, ◌+◌, ◌-◌, ◌*◌, ◌%◌, ◌^◌, ◌==◌, bit_and, Bool, if◌then◌else◌, List, [], ◌∷◌, Option, None, Some, Result, Ok, Err, ℤ, int_lt}
use Rattle.std.specs.Int.{w64, cast_signed, cast_unsigned}
use Rattle.std.specs.List.{slice_index_or}
use Rattle.cfi_eval.specs.declared.registers.Regs.{Regs}
use Rattle.cfi_eval.specs.declared.memory.MemRun.{MemRun}
use Rattle.cfi_eval.specs.declared.outcome.Cause.{Cause}
use Rattle.cfi_eval.specs.declared.outcome.Cause.TheVariants.{Missing, Unreadable, Stack, NoCfa}
use Rattle.cfi_eval.specs.declared.outcome.Outcome.{Outcome}
use Rattle.cfi_eval.specs.declared.outcome.Outcome.TheVariants.{Value, Undefined, Failed}
use Rattle.cfi_eval.specs.Bytes.{word_at}
use Rattle.expr_steps.specs.declared.operation.Operation.{Operation}
use Rattle.expr_steps.specs.declared.operation.Operation.TheVariants.{Constant, Breg, Deref, And, Minus, Mul, Plus, PlusUconst, Shl, Ge}
use Rattle.expr_steps.specs.declared.standing.Standing.{Standing}
use Rattle.expr_steps.specs.declared.standing.Standing.TheVariants.{Free, OverCfa}
use Rattle.expr_steps.specs.Operations.{operations}
use Rattle.expr_steps.specs.Standing.{standing}

-- the present value of a register, given its DWARF number; 16 is rip
abbrev pub held : Regs → ℕ → Option ℕ
held regs register = if register == 16 then regs.rip else slice_index_or regs.values register None

-- the value of a register plus an offset
abbrev pub offset_from : ℕ → ℤ → Option ℕ → Result ℕ Cause
offset_from register offset None = Err (Missing register)
offset_from register offset (Some v) = Ok ((v + cast_unsigned w64 offset) % 2 ^ 64)

-- the word in memory at an address
abbrev pub fetched : ℕ → Option ℕ → Result ℕ Cause
fetched a None = Err (Unreadable a)
fetched a (Some word) = Ok word

-- a signed comparison (2.5.1.5)
abbrev pub is_at_least : ℤ → ℤ → ℕ
is_at_least a b = if int_lt a b then 0 else 1

-- `onto` pushes a number. An operation pops the top number, or the two on top, of which the upper is its second operand
abbrev pub onto : List ℕ → Result ℕ Cause → Result (List ℕ) Cause
onto stack (Ok v) = Ok (v ∷ stack)
onto stack (Err why) = Err why

abbrev pub unary : (ℕ → Result ℕ Cause) → List ℕ → Result (List ℕ) Cause
unary operation [] = Err Stack
unary operation (a ∷ stack) = onto stack (operation a)

abbrev pub binary : (ℕ → ℕ → ℕ) → List ℕ → Result (List ℕ) Cause
binary operation [] = Err Stack
binary operation (b ∷ []) = Err Stack
binary operation (b ∷ a ∷ stack) = Ok (operation a b ∷ stack)

-- the stack after an operation (2.5.1.1 to 2.5.1.5), or the failure
unfoldable pub with_operation : Regs → List MemRun → Operation → List ℕ → Result (List ℕ) Cause
with_operation regs memory (Constant c) stack = Ok (c % 2 ^ 64 ∷ stack)
with_operation regs memory (Breg register offset) stack = onto stack (offset_from register offset (held regs register))
with_operation regs memory Deref stack = unary (λ a. fetched a (word_at memory a)) stack
with_operation regs memory And stack = binary bit_and stack
with_operation regs memory Minus stack = binary (λ a b. (a + (2 ^ 64 - b)) % 2 ^ 64) stack
with_operation regs memory Mul stack = binary (λ a b. (a * b) % 2 ^ 64) stack
with_operation regs memory Plus stack = binary (λ a b. (a + b) % 2 ^ 64) stack
with_operation regs memory (PlusUconst addend) stack = unary (λ a. Ok ((a + addend) % 2 ^ 64)) stack
with_operation regs memory Shl stack = binary (λ a b. (a * 2 ^ b) % 2 ^ 64) stack
with_operation regs memory Ge stack = binary (λ a b. is_at_least (cast_signed w64 a) (cast_signed w64 b)) stack

abbrev pub top_value : List ℕ → Outcome
top_value [] = Failed Stack
top_value (v ∷ stack) = Value v

abbrev pub go_on : Result (List ℕ) Cause → (List ℕ → Outcome) → Outcome
go_on (Ok stack) next = next stack
go_on (Err why) next = Failed why

-- the value of operations, given the stack before them
unfoldable pub value_over : Regs → List MemRun → List Operation → List ℕ → Outcome
value_over regs memory [] stack = top_value stack
value_over regs memory (operation ∷ later) stack = go_on (with_operation regs memory operation stack) (value_over regs memory later)

-- the stack before the first operation: the CFA, if the expression pops numbers below its own; otherwise it is empty
abbrev pub beginning : Outcome → Option Standing → Result (List ℕ) Cause
beginning cfa None = Ok []
beginning cfa (Some Free) = Ok []
beginning (Value v) (Some OverCfa) = Ok (v ∷ [])
beginning Undefined (Some OverCfa) = Err NoCfa
beginning (Failed why) (Some OverCfa) = Err why

abbrev pub value_by : Regs → List MemRun → Result (List ℕ) Cause → Option (List Operation) → Outcome
value_by regs memory begin None = Failed Stack
value_by regs memory begin (Some given) = go_on begin (value_over regs memory given)

-- the value of an expression, given registers, memory and the CFA; `start` says that the CFA may be on the stack
unfoldable pub expr_value : Regs → List MemRun → Outcome → Bool → List ℕ → Outcome
expr_value regs memory cfa start bytes = value_by regs memory (beginning cfa (standing start bytes)) (operations bytes)

-- the word at the address that is an outcome's value; a failure remains a failure
abbrev pub word_there : ℕ → Option ℕ → Outcome
word_there a None = Failed (Unreadable a)
word_there a (Some word) = Value word

abbrev pub word_of : List MemRun → Outcome → Outcome
word_of memory (Value a) = word_there a (word_at memory a)
word_of memory Undefined = Undefined
word_of memory (Failed why) = Failed why
