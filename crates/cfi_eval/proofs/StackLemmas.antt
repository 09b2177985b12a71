-- Stacks of values, and words that are evaluated one after another.
use Rattle.std.proofs.Common.{◌≡◌, ℕ, ◌+◌, ◌<◌, ◌≤◌, false, List, [], ◌∷◌, ◌++◌, length, get_or, drop, reverse, Option, Result, Ok, Err, refl, sym, ap, ◌∙◌}
use Rattle.std.proofs.lemmas.List.{drop_more, drop_all, reverse-append}
use Rattle.sym_rules.specs.declared.rules.Token.{Token}
use Rattle.sym_rules.specs.declared.rules.Token.TheVariants.{Undef}
use Rattle.cfi_eval.specs.declared.registers.Regs.{Regs}
use Rattle.cfi_eval.specs.declared.memory.MemRun.{MemRun}
use Rattle.cfi_eval.specs.declared.outcome.Cause.{Cause}
use Rattle.cfi_eval.specs.declared.outcome.Cause.TheVariants as cause
use Rattle.cfi_eval.specs.declared.outcome.Outcome.{Outcome}
use Rattle.cfi_eval.specs.declared.outcome.Outcome.TheVariants.{Failed}
use Rattle.cfi_eval.specs.Postfix.{on_one, on_two, with_token, or_failed, postfix_from, rule_value, one_value}
use Rattle.cfi_eval.specs.internal.Stacks.{HasNoTwo, HasNone, is_undefined}

-- An empty stack does not have two values.
none_no_two_of : (stack : List ℕ) → ((sign : ℕ → Result ℕ Cause) → on_one sign stack ≡ Err cause.Stack) → (sign : ℕ → ℕ → Result ℕ Cause) → on_two sign stack ≡ Err cause.Stack
none_no_two_of [] h sign = refl
none_no_two_of (v ∷ stack) h sign = let no : Ok (0 ∷ stack) ≡ Err cause.Stack = h (λ w. Ok 0) in cc

pub none_no_two : (stack : List ℕ) → HasNone stack → HasNoTwo stack
none_no_two stack h sign = none_no_two_of (reverse stack) h sign

-- A stack of one value does not have two.
one_no_two_of : (stack : List ℕ) → ((sign : ℕ → Result ℕ Cause) → on_one sign stack ≡ Err cause.Stack) → (b : ℕ) (sign : ℕ → ℕ → Result ℕ Cause) → on_two sign (b ∷ stack) ≡ Err cause.Stack
one_no_two_of [] h b sign = refl
one_no_two_of (v ∷ stack) h b sign = let no : Ok (0 ∷ stack) ≡ Err cause.Stack = h (λ w. Ok 0) in cc

pub one_no_two : (stack below : List ℕ) (b : ℕ) → reverse stack ≡ b ∷ reverse below → HasNone below → HasNoTwo stack
one_no_two stack below b e h sign = rw e (one_no_two_of (reverse below) h b sign)

-- A rule is evaluated word by word, unless `.undef` is its only word.
pub rule_defined : (regs : Regs) (memory : List MemRun) (cfa : Option Outcome) (tokens : List Token) → is_undefined tokens ≡ false → rule_value regs memory cfa tokens ≡ postfix_from regs memory cfa tokens []
unfolding rule_value
rule_defined regs memory cfa [] h = refl
rule_defined regs memory cfa (Undef ∷ []) h = cc
rule_defined regs memory cfa (_ ∷ _) h = refl

-- One more word.
pub words_more : (regs : Regs) (memory : List MemRun) (cfa : Option Outcome) (tokens : List Token) (i : ℕ) (token : Token) (stack next : List ℕ) → i < length tokens → token ≡ get_or tokens i token
    → with_token regs memory cfa token stack ≡ Ok next → postfix_from regs memory cfa (drop i tokens) stack ≡ postfix_from regs memory cfa (drop (i + 1) tokens) next
unfolding postfix_from
words_more regs memory cfa tokens i token stack next l e h =
    let now : drop i tokens ≡ token ∷ drop (i + 1) tokens = drop_more tokens i token l ∙ ap (λ t. t ∷ drop (i + 1) tokens) (sym e) in
    rw now (ap (λ r. or_failed r (postfix_from regs memory cfa (drop (i + 1) tokens))) h)

pub words_fail : (regs : Regs) (memory : List MemRun) (cfa : Option Outcome) (tokens : List Token) (i : ℕ) (token : Token) (stack : List ℕ) (why : Cause) → i < length tokens → token ≡ get_or tokens i token
    → with_token regs memory cfa token stack ≡ Err why → postfix_from regs memory cfa (drop i tokens) stack ≡ Failed why
unfolding postfix_from
words_fail regs memory cfa tokens i token stack why l e h =
    let now : drop i tokens ≡ token ∷ drop (i + 1) tokens = drop_more tokens i token l ∙ ap (λ t. t ∷ drop (i + 1) tokens) (sym e) in
    rw now (ap (λ r. or_failed r (postfix_from regs memory cfa (drop (i + 1) tokens))) h)

pub words_end : (regs : Regs) (memory : List MemRun) (cfa : Option Outcome) (tokens : List Token) (i : ℕ) (stack : List ℕ) → length tokens ≤ i → postfix_from regs memory cfa (drop i tokens) stack ≡ one_value stack
unfolding postfix_from
words_end regs memory cfa tokens i stack l = rw (drop_all i tokens l) refl

pub push_reversed : (stack : List ℕ) (v : ℕ) → v ∷ reverse stack ≡ reverse (stack ++ v ∷ [])
push_reversed stack v = sym (reverse-append stack (v ∷ []))
