-- The value of a postfix expression (Breakpad's symbol_files.md, "STACK CFI"). Its words are
-- evaluated from left to right with a stack of values, whose first member is its top. The first
-- word that fails gives the cause of the failure. Arithmetic is modulo 2^64.
use Rattle.std.specs.Prelude.{ℕ, ◌+◌, ◌-◌, ◌*◌, ◌/◌, ◌%◌, ◌^◌, ◌==◌, if◌then◌else◌, List, [], ◌∷◌, codes, Option, None, Some, Result, Ok, Err}
use Rattle.std.specs.Int.{cast_unsigned, is_power_of_two, w64}
use Rattle.std.specs.Str.{bytes_eq}
use Rattle.std.specs.List.{slice_index_or}
use Rattle.sym_rules.specs.declared.rules.Token.{Token}
use Rattle.sym_rules.specs.declared.rules.Token.TheVariants.{Number, Reg, Cfa, Undef, Other, Add, Sub, Mul, Div, Rem, Align, Fetch}
use Rattle.cfi_eval.specs.declared.registers.Regs.{Regs}
use Rattle.cfi_eval.specs.declared.memory.MemRun.{MemRun}
use Rattle.cfi_eval.specs.declared.outcome.Cause.{Cause}
use Rattle.cfi_eval.specs.declared.outcome.Cause.TheVariants as cause
use Rattle.cfi_eval.specs.declared.outcome.Outcome.{Outcome}
use Rattle.cfi_eval.specs.declared.outcome.Outcome.TheVariants.{Value, Undefined, Failed}
use Rattle.cfi_eval.specs.Bytes.{word_at}

-- the value of a register, or the cause `Missing`
abbrev pub known_or_missing : ℕ → Option ℕ → Result ℕ Cause
known_or_missing register None = Err (cause.Missing register)
known_or_missing register (Some v) = Ok v

unfoldable pub register_value : Regs → ℕ → Result ℕ Cause
register_value regs register = known_or_missing register (slice_index_or regs.values register None)

-- the value of a name that is not one of the sixteen registers: only `$rip`, the address of the
-- next instruction, has one
unfoldable pub name_value : Regs → List ℕ → Result ℕ Cause
name_value regs name = if bytes_eq name (codes "$rip") then known_or_missing 16 regs.rip else Err cause.UnknownName

-- the value of `.cfa`; it has no value inside its own rule
abbrev pub cfa_value : Option Outcome → Result ℕ Cause
cfa_value None = Err cause.UnknownName
cfa_value (Some (Value v)) = Ok v
cfa_value (Some Undefined) = Err cause.NoCfa
cfa_value (Some (Failed why)) = Err why

-- the word in memory at an address, or the cause `Unreadable`
abbrev pub word_or_unreadable : ℕ → Option ℕ → Result ℕ Cause
word_or_unreadable a None = Err (cause.Unreadable a)
word_or_unreadable a (Some word) = Ok word

unfoldable pub word_value : List MemRun → ℕ → Result ℕ Cause
word_value memory a = word_or_unreadable a (word_at memory a)

-- the stack with a value pushed onto it, unless the value failed
abbrev pub pushed : Result ℕ Cause → List ℕ → Result (List ℕ) Cause
pushed (Err why) stack = Err why
pushed (Ok v) stack = Ok (v ∷ stack)

-- the stack after an operator of two operands, which pops the second operand, then the first, and
-- pushes the result
abbrev pub on_two : (ℕ → ℕ → Result ℕ Cause) → List ℕ → Result (List ℕ) Cause
on_two sign [] = Err cause.Stack
on_two sign (b ∷ []) = Err cause.Stack
on_two sign (b ∷ a ∷ stack) = pushed (sign a b) stack

-- the stack after an operator of one operand
abbrev pub on_one : (ℕ → Result ℕ Cause) → List ℕ → Result (List ℕ) Cause
on_one sign [] = Err cause.Stack
on_one sign (a ∷ stack) = pushed (sign a) stack

abbrev pub sum_of : ℕ → ℕ → Result ℕ Cause
sum_of a b = Ok ((a + b) % 2 ^ 64)

abbrev pub difference_of : ℕ → ℕ → Result ℕ Cause
difference_of a b = Ok ((a + (2 ^ 64 - b)) % 2 ^ 64)

abbrev pub product_of : ℕ → ℕ → Result ℕ Cause
product_of a b = Ok ((a * b) % 2 ^ 64)

abbrev pub quotient_of : ℕ → ℕ → Result ℕ Cause
quotient_of a b = if b == 0 then Err cause.Divide else Ok (a / b)

abbrev pub remainder_of : ℕ → ℕ → Result ℕ Cause
remainder_of a b = if b == 0 then Err cause.Divide else Ok (a % b)

-- the greatest multiple of b that is at most a; b must be a power of two
abbrev pub multiple_of : ℕ → ℕ → Result ℕ Cause
multiple_of a b = if is_power_of_two b then Ok (a - a % b) else Err cause.Align

-- the stack after a word, or the cause of its failure
unfoldable pub with_token : Regs → List MemRun → Option Outcome → Token → List ℕ → Result (List ℕ) Cause
with_token regs memory cfa (Number n) stack = Ok (cast_unsigned w64 n ∷ stack)
with_token regs memory cfa (Reg register) stack = pushed (register_value regs register) stack
with_token regs memory cfa Cfa stack = pushed (cfa_value cfa) stack
with_token regs memory cfa Undef stack = Err cause.UnknownName
with_token regs memory cfa (Other name) stack = pushed (name_value regs name) stack
with_token regs memory cfa Add stack = on_two sum_of stack
with_token regs memory cfa Sub stack = on_two difference_of stack
with_token regs memory cfa Mul stack = on_two product_of stack
with_token regs memory cfa Div stack = on_two quotient_of stack
with_token regs memory cfa Rem stack = on_two remainder_of stack
with_token regs memory cfa Align stack = on_two multiple_of stack
with_token regs memory cfa Fetch stack = on_one (word_value memory) stack

-- the value that is left at the end; it must be the only one
abbrev pub one_value : List ℕ → Outcome
one_value [] = Failed cause.Stack
one_value (v ∷ []) = Value v
one_value (v ∷ w ∷ stack) = Failed cause.Stack

abbrev pub or_failed : Result (List ℕ) Cause → (List ℕ → Outcome) → Outcome
or_failed (Err why) go = Failed why
or_failed (Ok stack) go = go stack

-- the value of the words, given the stack before them
unfoldable pub postfix_from : Regs → List MemRun → Option Outcome → List Token → List ℕ → Outcome
postfix_from regs memory cfa [] stack = one_value stack
postfix_from regs memory cfa (token ∷ tokens) stack = or_failed (with_token regs memory cfa token stack) (postfix_from regs memory cfa tokens)

-- the value of a rule's words; `cfa` is missing inside the rule of `.cfa`. A rule of the single
-- word `.undef` says that there is no value
unfoldable pub rule_value : Regs → List MemRun → Option Outcome → List Token → Outcome
rule_value regs memory cfa (Undef ∷ []) = Undefined
rule_value regs memory cfa tokens = postfix_from regs memory cfa tokens []
