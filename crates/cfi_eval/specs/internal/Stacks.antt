-- Stacks of values as the code stores them, with the top at the end, and the rules that need no
-- stack.
use Rattle.std.specs.Prelude.{◌≡◌, ℕ, Bool, true, false, List, [], ◌∷◌, reverse, Result, Err}
use Rattle.sym_rules.specs.declared.rules.Token.{Token}
use Rattle.sym_rules.specs.declared.rules.Token.TheVariants.{Undef}
use Rattle.cfi_eval.specs.declared.outcome.Cause.{Cause}
use Rattle.cfi_eval.specs.declared.outcome.Cause.TheVariants as cause
use Rattle.cfi_eval.specs.Postfix.{on_one, on_two}

-- the stack has too few values for an operator of two operands
abbrev pub HasNoTwo : List ℕ → Type 0
HasNoTwo stack = (sign : ℕ → ℕ → Result ℕ Cause) → on_two sign (reverse stack) ≡ Err cause.Stack

-- the stack has too few values for an operator of one operand
abbrev pub HasNone : List ℕ → Type 0
HasNone stack = (sign : ℕ → Result ℕ Cause) → on_one sign (reverse stack) ≡ Err cause.Stack

-- whether `.undef` is the only word
abbrev pub is_undefined : List Token → Bool
is_undefined (Undef ∷ []) = true
is_undefined _ = false
