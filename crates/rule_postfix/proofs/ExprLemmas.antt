-- The words of expressions that rule text can express: there are some, and they have the value of
-- the expression; for the lemmas of ShownLemmas, ValueLemmas, WideLemmas.
use Rattle.std.proofs.Common.{◌≡◌, ℕ, Bool, true, List, [], ◌∷◌, Option, Some, None, is_some, Result, Ok, Err, refl}
use Rattle.std.specs.Option.{option_and_then}
use Rattle.sym_rules.specs.declared.rules.Token.{Token}
use Rattle.expr_steps.specs.declared.operation.Operation.{Operation}
use Rattle.expr_steps.specs.declared.step.Step.{Step}
use Rattle.expr_steps.specs.declared.standing.Standing.{Standing}
use Rattle.expr_steps.specs.declared.standing.Standing.TheVariants.{Free, OverCfa}
use Rattle.expr_steps.specs.Operations.{operations}
use Rattle.expr_steps.specs.Steps.{steps}
use Rattle.expr_steps.specs.Standing.{standing_of, standing}
use Rattle.expr_postfix.specs.ExprTokens.{tokens_by, expr_tokens, with_fetch, rule_tokens}
use Rattle.expr_postfix.specs.ExprValue.{with_operation, top_value, go_on, value_over, beginning, value_by, expr_value}
use Rattle.cfi_eval.specs.declared.registers.Regs.{Regs}
use Rattle.cfi_eval.specs.declared.memory.MemRun.{MemRun}
use Rattle.cfi_eval.specs.declared.outcome.Cause.{Cause}
use Rattle.cfi_eval.specs.declared.outcome.Outcome.{Outcome}
use Rattle.cfi_eval.specs.declared.outcome.Outcome.TheVariants.{Value, Undefined, Failed}

-- There are words.
said_by : (given : List Step) (s : Option Standing) → is_some s ≡ true → is_some (tokens_by given s) ≡ true
said_by given None said = cc
said_by given (Some Free) said = refl
said_by given (Some OverCfa) said = refl

said_of : (start : Bool) (made : Option (List Step)) → is_some (option_and_then (standing_of start) made) ≡ true → is_some (option_and_then (λ given. tokens_by given (standing_of start given)) made) ≡ true
said_of start None said = cc
said_of start (Some given) said = said_by given (standing_of start given) said

pub words_there : (start : Bool) (bytes : List ℕ) → is_some (standing start bytes) ≡ true → is_some (expr_tokens start bytes) ≡ true
unfolding standing expr_tokens
words_there start bytes said = said_of start (steps bytes) said

fetch_there : (fetch : Bool) (words : Option (List Token)) → is_some words ≡ true → is_some (with_fetch fetch words) ≡ true
fetch_there fetch None some = cc
fetch_there fetch (Some given) some = refl

pub rule_there : (start fetch : Bool) (bytes : List ℕ) → is_some (standing start bytes) ≡ true → is_some (rule_tokens start fetch bytes) ≡ true
unfolding rule_tokens
rule_there start fetch bytes said = fetch_there fetch (expr_tokens start bytes) (words_there start bytes said)

-- An outcome that is a value or a failure.
abbrev pub IsTold : Outcome → Type 0
IsTold (Value v) = Unit {0}
IsTold Undefined = ⊥
IsTold (Failed why) = Unit {0}

-- The outcome of an expression is a value or a failure.
top_told : (stack : List ℕ) → IsTold (top_value stack)
top_told [] = tt
top_told (v ∷ stack) = tt

go_told : (stack : Result (List ℕ) Cause) (next : List ℕ → Outcome) → ((s : List ℕ) → IsTold (next s)) → IsTold (go_on stack next)
go_told (Ok stack) next told = told stack
go_told (Err why) next told = tt

over_told : (regs : Regs) (memory : List MemRun) (given : List Operation) (stack : List ℕ) → IsTold (value_over regs memory given stack)
unfolding value_over
over_told regs memory [] stack = top_told stack
over_told regs memory (operation ∷ later) stack = go_told (with_operation regs memory operation stack) (value_over regs memory later) (over_told regs memory later)

by_told : (regs : Regs) (memory : List MemRun) (begin : Result (List ℕ) Cause) (given : Option (List Operation)) → IsTold (value_by regs memory begin given)
by_told regs memory begin None = tt
by_told regs memory begin (Some given) = go_told begin (value_over regs memory given) (over_told regs memory given)

pub expr_told : (regs : Regs) (memory : List MemRun) (cfa : Outcome) (start : Bool) (bytes : List ℕ) → IsTold (expr_value regs memory cfa start bytes)
unfolding expr_value
expr_told regs memory cfa start bytes = by_told regs memory (beginning cfa (standing start bytes)) (operations bytes)
