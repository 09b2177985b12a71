-- The words of a whole expression have its value, alone and with a fetch after them. The lemmas are
-- for the law `words_have_the_value`.
use Rattle.std.proofs.Common.{◌≡◌, ◌+◌, ℕ, Bool, true, false, nat_eq, nat_le, ◌&&◌, cond, codes, List, [], ◌∷◌, ◌++◌, Option, None, Some, refl, sym, ap, subst, ◌∙◌, append_assoc, append-nil}
use Rattle.std.specs.Option.{option_and_then}
use Rattle.std.specs.List.{sum_by}
use Rattle.std.proofs.lemmas.Bool.{eqb-true}
use Rattle.sym_rules.specs.declared.rules.Token.{Token}
use Rattle.sym_rules.specs.declared.rules.Token.TheVariants as token
use Rattle.cfi_eval.specs.declared.registers.Regs.{Regs}
use Rattle.cfi_eval.specs.declared.memory.MemRun.{MemRun}
use Rattle.cfi_eval.specs.declared.outcome.Outcome.{Outcome}
use Rattle.cfi_eval.specs.declared.outcome.Outcome.TheVariants.{Value, Undefined, Failed}
use Rattle.cfi_eval.specs.Bytes.{word_at}
use Rattle.cfi_eval.specs.Postfix.{word_value, with_token, postfix_from, rule_value}
use Rattle.expr_steps.specs.declared.operation.Operation.{Operation}
use Rattle.expr_steps.specs.declared.step.Step.{Step}
use Rattle.expr_steps.specs.declared.step.Step.TheVariants as step
use Rattle.expr_steps.specs.declared.standing.Standing.{Standing}
use Rattle.expr_steps.specs.declared.standing.Standing.TheVariants.{Free, OverCfa}
use Rattle.expr_steps.specs.Operations.{operations}
use Rattle.expr_steps.specs.Steps.{steps_of, steps}
use Rattle.expr_steps.specs.Standing.{words, depth_after, is_one, standing_by, standing_of, standing}
use Rattle.expr_postfix.specs.ExprTokens.{step_tokens, steps_tokens, tokens_by, expr_tokens, with_fetch, rule_tokens}
use Rattle.expr_postfix.specs.ExprValue.{beginning, value_by, expr_value, word_there, word_of}
use Rattle.expr_postfix.proofs.TokenLemmas.{steps_front, steps_none}
use Rattle.expr_postfix.proofs.ValueLemmas.{behind_value, Means, IfMeans, steps_mean}

-- Words other than a single `.undef` are evaluated one after the other.
abbrev IsDone : Regs → List MemRun → Option Outcome → List Token → Type 0
IsDone regs memory given ws = rule_value regs memory given ws ≡ postfix_from regs memory given ws []

named_done : (regs : Regs) (memory : List MemRun) (given : Option Outcome) (is_rip : Bool) (register : ℕ) (later : List Token) → IsDone regs memory given (cond is_rip (token.Other (codes "$rip")) (token.Reg register) ∷ later)
unfolding rule_value
named_done regs memory given true register later = refl
named_done regs memory given false register later = refl

step_done : (regs : Regs) (memory : List MemRun) (given : Option Outcome) (s : Step) (later : List Token) → IsDone regs memory given (step_tokens s ++ later)
unfolding rule_value
step_done regs memory given (step.Constant value) later = refl
step_done regs memory given (step.Register register offset) later = named_done regs memory given (nat_eq register 16) register (token.Number offset ∷ token.Add ∷ later)
step_done regs memory given step.Fetch later = refl
step_done regs memory given step.Add later = refl
step_done regs memory given step.Subtract later = refl
step_done regs memory given step.Multiply later = refl
step_done regs memory given (step.AddConstant addend) later = refl
step_done regs memory given (step.Remainder size) later = refl
step_done regs memory given (step.Product factor) later = refl
step_done regs memory given (step.Reaches lift size) later = refl

steps_done : (regs : Regs) (memory : List MemRun) (given : Option Outcome) (made : List Step) (later : List Token) → IsDone regs memory given later → IsDone regs memory given (steps_tokens made ++ later)
steps_done regs memory given [] later done = rw steps_none done
steps_done regs memory given (s ∷ made) later done =
    let apart : steps_tokens (s ∷ made) ++ later ≡ step_tokens s ++ (steps_tokens made ++ later) = ap (λ ws. ws ++ later) (steps_front s made) ∙ append_assoc (step_tokens s) (steps_tokens made) later in
    rw apart (step_done regs memory given s (steps_tokens made ++ later))

cfa_done : (regs : Regs) (memory : List MemRun) (given : Option Outcome) (later : List Token) → IsDone regs memory given (token.Cfa ∷ later)
unfolding rule_value
cfa_done regs memory given later = refl

-- How many values an expression leaves.
one_there : (depth : Option ℕ) → is_one depth ≡ true → depth ≡ Some 1
one_there None one = cc
one_there (Some n) one = ap Some (eqb-true n 1 one)

both_first : (a b : Bool) → a && b ≡ true → a ≡ true
both_first true b both = refl
both_first false b both = both

both_second : (a b : Bool) → a && b ≡ true → b ≡ true
both_second true b both = both
both_second false b both = cc

pub free_by : (free over : Bool) → cond free (Some Free) (cond over (Some OverCfa) None) ≡ Some Free → free ≡ true
free_by true over is = refl
free_by false true is = cc
free_by false false is = cc

pub over_by : (free over : Bool) → cond free (Some Free) (cond over (Some OverCfa) None) ≡ Some OverCfa → over ≡ true
over_by true over is = cc
over_by false true is = refl
over_by false false is = cc

pub free_depth : (start : Bool) (made : List Step) → standing_of start made ≡ Some Free → depth_after made (Some 0) ≡ Some 1
unfolding standing_of standing_by
free_depth start made is =
    one_there (depth_after made (Some 0)) (both_first (is_one (depth_after made (Some 0))) (nat_le (sum_by words made) 1024)
    (free_by (is_one (depth_after made (Some 0)) && nat_le (sum_by words made) 1024) (start && is_one (depth_after made (Some 1)) && nat_le (sum_by words made + 1) 1024) is))

over_fits : (start : Bool) (made : List Step) → standing_of start made ≡ Some OverCfa → start && is_one (depth_after made (Some 1)) ≡ true
unfolding standing_of standing_by
over_fits start made is =
    both_first (start && is_one (depth_after made (Some 1))) (nat_le (sum_by words made + 1) 1024)
    (over_by (is_one (depth_after made (Some 0)) && nat_le (sum_by words made) 1024) (start && is_one (depth_after made (Some 1)) && nat_le (sum_by words made + 1) 1024) is)

over_depth : (start : Bool) (made : List Step) → standing_of start made ≡ Some OverCfa → depth_after made (Some 1) ≡ Some 1
over_depth start made is = one_there (depth_after made (Some 1)) (both_second start (is_one (depth_after made (Some 1))) (over_fits start made is))

over_start : (start : Bool) (made : List Step) → standing_of start made ≡ Some OverCfa → start ≡ true
over_start start made is = both_first start (is_one (depth_after made (Some 1))) (over_fits start made is)

-- The words of an expression, and words after them.
pub record Gives (regs : Regs) (memory : List MemRun) (given : Option Outcome) (later ws : List Token) (value : Outcome) : Type 0 where
  pub gives : rule_value regs memory given (ws ++ later) ≡ behind_value value (λ v. postfix_from regs memory given later (v ∷ []))

cfa_gives : (regs : Regs) (memory : List MemRun) (cfa : Outcome) (ops : List Operation) (made : List Step) (later : List Token) → Means regs memory (Some cfa) None ops made → depth_after made (Some 1) ≡ Some 1
    → postfix_from regs memory (Some cfa) (token.Cfa ∷ (steps_tokens made ++ later)) [] ≡ behind_value (value_by regs memory (beginning cfa (Some OverCfa)) (Some ops)) (λ v. postfix_from regs memory (Some cfa) later (v ∷ []))
unfolding postfix_from with_token
cfa_gives regs memory (Value v) ops made later means one = means.says later (v ∷ []) tt one
cfa_gives regs memory Undefined ops made later means one = refl
cfa_gives regs memory (Failed why) ops made later means one = refl

stands_gives : (regs : Regs) (memory : List MemRun) (given : Option Outcome) (cfa : Outcome) (start : Bool) (ops : List Operation) (made : List Step) (later ws : List Token) (stands : Option Standing)
    → standing_of start made ≡ stands → (start ≡ true → given ≡ Some cfa) → Means regs memory given None ops made → IsDone regs memory given later → tokens_by made stands ≡ Some ws
    → Gives regs memory given later ws (value_by regs memory (beginning cfa stands) (Some ops))
stands_gives regs memory given cfa start ops made later ws None is at_cfa means done words = cc
stands_gives regs memory given cfa start ops made later ws (Some Free) is at_cfa means done words =
    let same : steps_tokens made ≡ ws = cc in
    record {
      gives =
          ap (λ xs. rule_value regs memory given (xs ++ later)) (sym same)
          ∙ steps_done regs memory given made later done
          ∙ means.says later [] tt (free_depth start made is);
    }
stands_gives regs memory given cfa start ops made later ws (Some OverCfa) is at_cfa means done words =
    let same : token.Cfa ∷ steps_tokens made ≡ ws = cc in
    let there : given ≡ Some cfa = at_cfa (over_start start made is) in
    let P : Option Outcome → Type 0 = λ g. Means regs memory g None ops made in
    record {
      gives =
          ap (λ xs. rule_value regs memory given (xs ++ later)) (sym same)
          ∙ cfa_done regs memory given (steps_tokens made ++ later)
          ∙ ap (λ g. postfix_from regs memory g (token.Cfa ∷ (steps_tokens made ++ later)) []) there
          ∙ cfa_gives regs memory cfa ops made later (subst P there means) (over_depth start made is)
          ∙ ap (λ g. behind_value (value_by regs memory (beginning cfa (Some OverCfa)) (Some ops)) (λ v. postfix_from regs memory g later (v ∷ []))) (sym there);
    }

made_gives : (regs : Regs) (memory : List MemRun) (given : Option Outcome) (cfa : Outcome) (start : Bool) (ops : List Operation) (made : Option (List Step)) (later ws : List Token)
    → (start ≡ true → given ≡ Some cfa) → IfMeans regs memory given None ops made → IsDone regs memory given later → option_and_then (λ m. tokens_by m (standing_of start m)) made ≡ Some ws
    → Gives regs memory given later ws (value_by regs memory (beginning cfa (option_and_then (standing_of start) made)) (Some ops))
made_gives regs memory given cfa start ops None later ws at_cfa means done words = cc
made_gives regs memory given cfa start ops (Some made) later ws at_cfa means done words = stands_gives regs memory given cfa start ops made later ws (standing_of start made) refl at_cfa means done words

read_gives : (regs : Regs) (memory : List MemRun) (given : Option Outcome) (cfa : Outcome) (start : Bool) (read : Option (List Operation)) (later ws : List Token) → (start ≡ true → given ≡ Some cfa)
    → IsDone regs memory given later → option_and_then (λ m. tokens_by m (standing_of start m)) (option_and_then (λ ops. steps_of ops None) read) ≡ Some ws
    → Gives regs memory given later ws (value_by regs memory (beginning cfa (option_and_then (standing_of start) (option_and_then (λ ops. steps_of ops None) read))) read)
read_gives regs memory given cfa start None later ws at_cfa done words = cc
read_gives regs memory given cfa start (Some ops) later ws at_cfa done words = made_gives regs memory given cfa start ops (steps_of ops None) later ws at_cfa (steps_mean regs memory given ops None) done words

expr_gives : (regs : Regs) (memory : List MemRun) (given : Option Outcome) (cfa : Outcome) (start : Bool) (bytes : List ℕ) (later ws : List Token) → (start ≡ true → given ≡ Some cfa)
    → IsDone regs memory given later → expr_tokens start bytes ≡ Some ws → Gives regs memory given later ws (expr_value regs memory cfa start bytes)
unfolding expr_tokens expr_value standing steps
expr_gives regs memory given cfa start bytes later ws at_cfa done words = read_gives regs memory given cfa start (operations bytes) later ws at_cfa done words

-- No words come after them.
none_done : (regs : Regs) (memory : List MemRun) (given : Option Outcome) → IsDone regs memory given []
unfolding rule_value
none_done regs memory given = refl

value_alone : (regs : Regs) (memory : List MemRun) (given : Option Outcome) (value : Outcome) → behind_value value (λ v. postfix_from regs memory given [] (v ∷ [])) ≡ value
unfolding postfix_from
value_alone regs memory given (Value v) = refl
value_alone regs memory given Undefined = refl
value_alone regs memory given (Failed why) = refl

alone_gives : (regs : Regs) (memory : List MemRun) (given : Option Outcome) (cfa : Outcome) (start : Bool) (bytes : List ℕ) (ws : List Token) → (start ≡ true → given ≡ Some cfa) → expr_tokens start bytes ≡ Some ws
    → rule_value regs memory given ws ≡ expr_value regs memory cfa start bytes
alone_gives regs memory given cfa start bytes ws at_cfa words =
    let all = expr_gives regs memory given cfa start bytes [] ws at_cfa (none_done regs memory given) words in
    ap (rule_value regs memory given) (sym (append-nil ws)) ∙ all.gives ∙ value_alone regs memory given (expr_value regs memory cfa start bytes)

pub value_with_cfa : (start : Bool) (bytes : List ℕ) (ws : List Token) (regs : Regs) (memory : List MemRun) (cfa : Outcome) → expr_tokens start bytes ≡ Some ws → rule_value regs memory (Some cfa) ws ≡ expr_value regs memory cfa start bytes
value_with_cfa start bytes ws regs memory cfa words = alone_gives regs memory (Some cfa) cfa start bytes ws (λ at_start. refl) words

pub value_free : (bytes : List ℕ) (ws : List Token) (regs : Regs) (memory : List MemRun) (given : Option Outcome) (cfa : Outcome) → expr_tokens false bytes ≡ Some ws → rule_value regs memory given ws ≡ expr_value regs memory cfa false bytes
value_free bytes ws regs memory given cfa words = alone_gives regs memory given cfa false bytes ws (λ at_start. cc) words

-- A `^` comes after them.
fetch_done : (regs : Regs) (memory : List MemRun) (given : Option Outcome) → IsDone regs memory given (token.Fetch ∷ [])
unfolding rule_value
fetch_done regs memory given = refl

word_found : (regs : Regs) (memory : List MemRun) (given : Option Outcome) (a : ℕ) (word : Option ℕ) → word_at memory a ≡ word → postfix_from regs memory given (token.Fetch ∷ []) (a ∷ []) ≡ word_there a word
unfolding postfix_from with_token word_value
word_found regs memory given a None is = rw is refl
word_found regs memory given a (Some w) is = rw is refl

value_fetched : (regs : Regs) (memory : List MemRun) (given : Option Outcome) (value : Outcome) → behind_value value (λ v. postfix_from regs memory given (token.Fetch ∷ []) (v ∷ [])) ≡ word_of memory value
value_fetched regs memory given (Value a) = word_found regs memory given a (word_at memory a) refl
value_fetched regs memory given Undefined = refl
value_fetched regs memory given (Failed why) = refl

fetched_words : (found : Option (List Token)) (ws : List Token) → with_fetch true found ≡ Some ws → (given : List Token) × (found ≡ Some given) × (given ++ token.Fetch ∷ [] ≡ ws)
fetched_words None ws is = cc
fetched_words (Some given) ws is = (given, refl, cc)

pub value_in_memory : (start : Bool) (bytes : List ℕ) (ws : List Token) (regs : Regs) (memory : List MemRun) (cfa : Outcome) → rule_tokens start true bytes ≡ Some ws
    → rule_value regs memory (Some cfa) ws ≡ word_of memory (expr_value regs memory cfa start bytes)
unfolding rule_tokens
value_in_memory start bytes ws regs memory cfa words =
    let found = fetched_words (expr_tokens start bytes) ws words in
    let all = expr_gives regs memory (Some cfa) cfa start bytes (token.Fetch ∷ []) found.0 (λ at_start. refl) (fetch_done regs memory (Some cfa)) found.1 in
    ap (rule_value regs memory (Some cfa)) (sym found.2) ∙ all.gives ∙ value_fetched regs memory (Some cfa) (expr_value regs memory cfa start bytes)
