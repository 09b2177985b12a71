-- The words of an expression have its value. The lemmas are for the law `words_have_the_value`.
use Rattle.std.proofs.Common.{◌≡◌, ◌≤◌, ◌+◌, ◌-◌, ◌^◌, ℕ, ℤ, Bool, true, false, nat_le, cond, List, [], ◌∷◌, ◌++◌, length, Option, None, Some, Result, Ok, Err, refl, sym, ap, ◌∙◌, append_assoc, arith}
use Rattle.std.proofs.lemmas.Bool.{leb-true}
use Rattle.sym_rules.specs.declared.rules.Token.{Token}
use Rattle.cfi_eval.specs.declared.registers.Regs.{Regs}
use Rattle.cfi_eval.specs.declared.memory.MemRun.{MemRun}
use Rattle.cfi_eval.specs.declared.outcome.Cause.{Cause}
use Rattle.cfi_eval.specs.declared.outcome.Outcome.{Outcome}
use Rattle.cfi_eval.specs.declared.outcome.Outcome.TheVariants.{Value, Undefined, Failed}
use Rattle.cfi_eval.specs.Postfix.{or_failed, postfix_from}
use Rattle.expr_steps.specs.declared.operation.Operation.{Operation}
use Rattle.expr_steps.specs.declared.operation.Operation.TheVariants.{Constant, Breg, Deref, And, Minus, Mul, Plus, PlusUconst, Shl, Ge}
use Rattle.expr_steps.specs.declared.step.Step.{Step}
use Rattle.expr_steps.specs.declared.step.Step.TheVariants as step
use Rattle.expr_steps.specs.Steps.{in_front, mask_size, with_and, with_ge, with_alone, steps_of}
use Rattle.expr_steps.specs.Standing.{takes, depth_after}
use Rattle.expr_postfix.specs.ExprTokens.{step_tokens, steps_tokens}
use Rattle.expr_postfix.specs.ExprValue.{go_on, top_value, value_over}
use Rattle.expr_postfix.proofs.TokenLemmas.{steps_front, steps_none}
use Rattle.expr_postfix.proofs.StepLemmas.{IsKept, IfDone, Agrees, mask_is, constant_agrees, register_agrees, fetch_agrees, add_agrees, subtract_agrees, multiply_agrees, add_constant_agrees, remainder_agrees, product_agrees, reaches_agrees}

-- The outcome of going on with a value; other outcomes remain.
abbrev pub behind_value : Outcome → (ℕ → Outcome) → Outcome
behind_value (Value v) next = next v
behind_value Undefined next = Undefined
behind_value (Failed why) next = Failed why

-- On each stack on which they leave one value, the words of steps give what their operations give,
-- whatever words come after them.
pub record Means (regs : Regs) (memory : List MemRun) (given : Option Outcome) (kept : Option ℕ) (ops : List Operation) (made : List Step) : Type 0 where
  pub says : (later : List Token) (stack : List ℕ) → IsKept kept stack → depth_after made (Some (length stack)) ≡ Some 1
      → postfix_from regs memory given (steps_tokens made ++ later) stack ≡ behind_value (value_over regs memory ops stack) (λ v. postfix_from regs memory given later (v ∷ []))

abbrev pub IfMeans : Regs → List MemRun → Option Outcome → Option ℕ → List Operation → Option (List Step) → Type 0
IfMeans regs memory given kept ops None = Unit {0}
IfMeans regs memory given kept ops (Some made) = Means regs memory given kept ops made

-- There is no step.
over_one : (regs : Regs) (memory : List MemRun) (given : Option Outcome) (later : List Token) (stack : List ℕ) → length stack ≡ 1
    → postfix_from regs memory given later stack ≡ behind_value (top_value stack) (λ v. postfix_from regs memory given later (v ∷ []))
over_one regs memory given later [] one = absurd (omega arith)
over_one regs memory given later (v ∷ []) one = refl
over_one regs memory given later (v ∷ w ∷ stack) one = absurd (omega arith)

none_means : (regs : Regs) (memory : List MemRun) (given : Option Outcome) (kept : Option ℕ) → Means regs memory given kept [] []
unfolding value_over depth_after
none_means regs memory given kept = record {
  says = λ later stack is_kept depth.
      let one : length stack ≡ 1 = cc in
      ap (λ ws. postfix_from regs memory given (ws ++ later) stack) steps_none ∙ over_one regs memory given later stack one;
}

-- A step is put in front of others, and finds the numbers that it takes.
abbrev pub Agreeing : Regs → List MemRun → Option Outcome → Option ℕ → Option ℕ → Step → List Operation → Type 0
Agreeing regs memory given kept keeps s ops = (stack : List ℕ) → IsKept kept stack → takes s ≤ length stack → Agrees regs memory given keeps s ops stack

none_after : (made : List Step) → depth_after made None ≡ None
unfolding depth_after
none_after [] = refl
none_after (s ∷ later) = none_after later

agreed : (regs : Regs) (memory : List MemRun) (given : Option Outcome) (keeps : Option ℕ) (ops : List Operation) (made : List Step) (later : List Token) (did : Result (List ℕ) Cause) (depth : ℕ)
    → IfDone did keeps depth → Means regs memory given keeps ops made → depth_after made (Some depth) ≡ Some 1
    → or_failed did (postfix_from regs memory given (steps_tokens made ++ later)) ≡ behind_value (go_on did (value_over regs memory ops)) (λ v. postfix_from regs memory given later (v ∷ []))
agreed regs memory given keeps ops made later (Ok next) depth done means one = means.says later next done.1 (ap (λ n. depth_after made (Some n)) done.0 ∙ one)
agreed regs memory given keeps ops made later (Err why) depth done means one = refl

front_by : (regs : Regs) (memory : List MemRun) (given : Option Outcome) (keeps : Option ℕ) (s : Step) (pair ops : List Operation) (made : List Step) (later : List Token) (stack : List ℕ)
    → Agrees regs memory given keeps s pair stack → Means regs memory given keeps ops made → depth_after made (Some (length stack - takes s + 1)) ≡ Some 1
    → postfix_from regs memory given (steps_tokens (s ∷ made) ++ later) stack ≡ behind_value (value_over regs memory (pair ++ ops) stack) (λ v. postfix_from regs memory given later (v ∷ []))
front_by regs memory given keeps s pair ops made later stack agrees means one =
    ap (λ ws. postfix_from regs memory given (ws ++ later) stack) (steps_front s made)
    ∙ ap (λ ws. postfix_from regs memory given ws stack) (append_assoc (step_tokens s) (steps_tokens made) later)
    ∙ agrees.words (steps_tokens made ++ later)
    ∙ agreed regs memory given keeps ops made later agrees.did (length stack - takes s + 1) agrees.left means one
    ∙ ap (λ o. behind_value o (λ v. postfix_from regs memory given later (v ∷ []))) (sym (agrees.does ops))

front_fits : (regs : Regs) (memory : List MemRun) (given : Option Outcome) (kept keeps : Option ℕ) (s : Step) (pair ops : List Operation) (made : List Step) (later : List Token) (stack : List ℕ) (fits : Bool)
    → nat_le (takes s) (length stack) ≡ fits → Agreeing regs memory given kept keeps s pair → Means regs memory given keeps ops made → IsKept kept stack
    → depth_after made (cond fits (Some (length stack - takes s + 1)) None) ≡ Some 1
    → postfix_from regs memory given (steps_tokens (s ∷ made) ++ later) stack ≡ behind_value (value_over regs memory (pair ++ ops) stack) (λ v. postfix_from regs memory given later (v ∷ []))
front_fits regs memory given kept keeps s pair ops made later stack true is agreeing means is_kept one =
    front_by regs memory given keeps s pair ops made later stack (agreeing stack is_kept (leb-true (takes s) (length stack) is)) means one
front_fits regs memory given kept keeps s pair ops made later stack false is agreeing means is_kept one =
    let never : ◌≡◌ {A = Option ℕ} None (Some 1) = sym (none_after made) ∙ one in cc

front_means : (regs : Regs) (memory : List MemRun) (given : Option Outcome) (kept keeps : Option ℕ) (s : Step) (pair ops : List Operation) (made : Option (List Step))
    → Agreeing regs memory given kept keeps s pair → IfMeans regs memory given keeps ops made → IfMeans regs memory given kept (pair ++ ops) (in_front s made)
unfolding depth_after
front_means regs memory given kept keeps s pair ops None agreeing means = tt
front_means regs memory given kept keeps s pair ops (Some made) agreeing means = record {
  says = λ later stack is_kept depth. front_fits regs memory given kept keeps s pair ops made later stack (nat_le (takes s) (length stack)) refl agreeing means is_kept depth;
}

-- Each kind of step.
constant_means : (regs : Regs) (memory : List MemRun) (given : Option Outcome) (kept : Option ℕ) (c : ℕ) (ops : List Operation) (made : Option (List Step)) → IfMeans regs memory given None ops made
    → IfMeans regs memory given kept (Constant c ∷ ops) (in_front (step.Constant c) made)
constant_means regs memory given kept c ops made means = front_means regs memory given kept None (step.Constant c) (Constant c ∷ []) ops made (λ stack is_kept some. constant_agrees regs memory given c stack) means

register_means : (regs : Regs) (memory : List MemRun) (given : Option Outcome) (kept : Option ℕ) (register : ℕ) (offset : ℤ) (ops : List Operation) (made : Option (List Step)) (named : Bool) → IfMeans regs memory given None ops made
    → IfMeans regs memory given kept (Breg register offset ∷ ops) (with_alone (cond named (Some (step.Register register offset)) None) made)
register_means regs memory given kept register offset ops made true means =
    front_means regs memory given kept None (step.Register register offset) (Breg register offset ∷ []) ops made (λ stack is_kept some. register_agrees regs memory given register offset stack) means
register_means regs memory given kept register offset ops made false means = tt

and_means : (regs : Regs) (memory : List MemRun) (given : Option Outcome) (kept : Option ℕ) (c : ℕ) (ops : List Operation) (found : Option ℕ) (made : Option ℕ → Option (List Step)) → mask_size 63 c ≡ found
    → ((keeps : Option ℕ) → IfMeans regs memory given keeps ops (made keeps)) → IfMeans regs memory given kept (Constant c ∷ And ∷ ops) (with_and found made)
and_means regs memory given kept c ops None made is means = tt
and_means regs memory given kept c ops (Some size) made is means =
    front_means regs memory given kept (Some size) (step.Remainder size) (Constant c ∷ And ∷ []) ops (made (Some size))
    (λ stack is_kept some. remainder_agrees regs memory given c size stack (mask_is 63 c size is) some) (means (Some size))

shl_means : (regs : Regs) (memory : List MemRun) (given : Option Outcome) (kept : Option ℕ) (c : ℕ) (ops : List Operation) (made : Option (List Step)) (low : Bool) → nat_le c 62 ≡ low
    → IfMeans regs memory given None ops made → IfMeans regs memory given kept (Constant c ∷ Shl ∷ ops) (cond low (in_front (step.Product (2 ^ c)) made) None)
shl_means regs memory given kept c ops made true is means =
    front_means regs memory given kept None (step.Product (2 ^ c)) (Constant c ∷ Shl ∷ []) ops made (λ stack is_kept some. product_agrees regs memory given c stack (leb-true c 62 is) some) means
shl_means regs memory given kept c ops made false is means = tt

least_means : (regs : Regs) (memory : List MemRun) (given : Option Outcome) (c size : ℕ) (ops : List Operation) (made : Option (List Step)) (most : Bool) → nat_le c size ≡ most
    → IfMeans regs memory given None ops made → IfMeans regs memory given (Some size) (Constant c ∷ Ge ∷ ops) (cond most (in_front (step.Reaches (size - c) size) made) None)
least_means regs memory given c size ops made true is means =
    front_means regs memory given (Some size) None (step.Reaches (size - c) size) (Constant c ∷ Ge ∷ []) ops made (λ stack is_kept some. reaches_agrees regs memory given c size stack (leb-true c size is) is_kept some) means
least_means regs memory given c size ops made false is means = tt

ge_means : (regs : Regs) (memory : List MemRun) (given : Option Outcome) (kept : Option ℕ) (c : ℕ) (ops : List Operation) (made : Option (List Step)) → IfMeans regs memory given None ops made
    → IfMeans regs memory given kept (Constant c ∷ Ge ∷ ops) (with_ge c kept made)
ge_means regs memory given None c ops made means = tt
ge_means regs memory given (Some size) c ops made means = least_means regs memory given c size ops made (nat_le c size) refl means

-- All operations.
pub steps_mean : (regs : Regs) (memory : List MemRun) (given : Option Outcome) (ops : List Operation) (kept : Option ℕ) → IfMeans regs memory given kept ops (steps_of ops kept)
unfolding steps_of
steps_mean regs memory given [] kept = none_means regs memory given kept
steps_mean regs memory given (Constant c ∷ []) kept = constant_means regs memory given kept c [] (Some []) (none_means regs memory given None)
steps_mean regs memory given (Constant c ∷ And ∷ later) kept = and_means regs memory given kept c later (mask_size 63 c) (steps_of later) refl (λ keeps. steps_mean regs memory given later keeps)
steps_mean regs memory given (Constant c ∷ Shl ∷ later) kept = shl_means regs memory given kept c later (steps_of later None) (nat_le c 62) refl (steps_mean regs memory given later None)
steps_mean regs memory given (Constant c ∷ Ge ∷ later) kept = ge_means regs memory given kept c later (steps_of later None) (steps_mean regs memory given later None)
steps_mean regs memory given (Constant c ∷ Constant d ∷ later) kept = constant_means regs memory given kept c (Constant d ∷ later) (steps_of (Constant d ∷ later) None) (steps_mean regs memory given (Constant d ∷ later) None)
steps_mean regs memory given (Constant c ∷ Breg register offset ∷ later) kept = constant_means regs memory given kept c (Breg register offset ∷ later) (steps_of (Breg register offset ∷ later) None) (steps_mean regs memory given (Breg register offset ∷ later) None)
steps_mean regs memory given (Constant c ∷ Deref ∷ later) kept = constant_means regs memory given kept c (Deref ∷ later) (steps_of (Deref ∷ later) None) (steps_mean regs memory given (Deref ∷ later) None)
steps_mean regs memory given (Constant c ∷ Minus ∷ later) kept = constant_means regs memory given kept c (Minus ∷ later) (steps_of (Minus ∷ later) None) (steps_mean regs memory given (Minus ∷ later) None)
steps_mean regs memory given (Constant c ∷ Mul ∷ later) kept = constant_means regs memory given kept c (Mul ∷ later) (steps_of (Mul ∷ later) None) (steps_mean regs memory given (Mul ∷ later) None)
steps_mean regs memory given (Constant c ∷ Plus ∷ later) kept = constant_means regs memory given kept c (Plus ∷ later) (steps_of (Plus ∷ later) None) (steps_mean regs memory given (Plus ∷ later) None)
steps_mean regs memory given (Constant c ∷ PlusUconst addend ∷ later) kept = constant_means regs memory given kept c (PlusUconst addend ∷ later) (steps_of (PlusUconst addend ∷ later) None) (steps_mean regs memory given (PlusUconst addend ∷ later) None)
steps_mean regs memory given (Breg register offset ∷ later) kept = register_means regs memory given kept register offset later (steps_of later None) (nat_le register 16) (steps_mean regs memory given later None)
steps_mean regs memory given (Deref ∷ later) kept = front_means regs memory given kept None step.Fetch (Deref ∷ []) later (steps_of later None) (λ stack is_kept some. fetch_agrees regs memory given stack some) (steps_mean regs memory given later None)
steps_mean regs memory given (Plus ∷ later) kept = front_means regs memory given kept None step.Add (Plus ∷ []) later (steps_of later None) (λ stack is_kept some. add_agrees regs memory given stack some) (steps_mean regs memory given later None)
steps_mean regs memory given (Minus ∷ later) kept = front_means regs memory given kept None step.Subtract (Minus ∷ []) later (steps_of later None) (λ stack is_kept some. subtract_agrees regs memory given stack some) (steps_mean regs memory given later None)
steps_mean regs memory given (Mul ∷ later) kept = front_means regs memory given kept None step.Multiply (Mul ∷ []) later (steps_of later None) (λ stack is_kept some. multiply_agrees regs memory given stack some) (steps_mean regs memory given later None)
steps_mean regs memory given (PlusUconst addend ∷ later) kept =
    front_means regs memory given kept None (step.AddConstant addend) (PlusUconst addend ∷ []) later (steps_of later None) (λ stack is_kept some. add_constant_agrees regs memory given addend stack some) (steps_mean regs memory given later None)
steps_mean regs memory given (And ∷ later) kept = tt
steps_mean regs memory given (Shl ∷ later) kept = tt
steps_mean regs memory given (Ge ∷ later) kept = tt
