-- The words of an expression are few, and rules can carry them. The lemmas are for `tokens` and the
-- law `words_fit_rules`.
use Rattle.std.proofs.Common.{◌≡◌, ◌≢◌, ◌<◌, ◌≤◌, ◌+◌, ◌-◌, ◌%◌, ◌^◌, ℕ, pos, negsuc, suc, Bool, true, false, nat_eq, nat_lt, nat_le, ◌&&◌, cond, codes, List, [], ◌∷◌, length, Option, None, Some, refl, sym, ap, ◌∙◌, length-append, arith}
use Rattle.std.specs.Int.{w64, cast_signed}
use Rattle.std.specs.List.{list_all, sum_by}
use Rattle.std.specs.Option.{option_and_then}
use Rattle.std.proofs.lemmas.Bool.{lt-ltb, ltb-false, leb-true, eqb-false}
use Rattle.std.proofs.lemmas.List.Folds.{list_all-append}
use Rattle.std.proofs.lemmas.List.Sums.{sum_by-cons}
use Rattle.sym_edges.specs.Integers.{fits_i64}
use Rattle.sym_rules.specs.declared.rules.Token.{Token}
use Rattle.sym_rules.specs.declared.rules.Token.TheVariants as token
use Rattle.sym_rules.proofs.BoolLemmas.{and_true, both, elim_bool}
use Rattle.expr_steps.specs.declared.step.Step.{Step}
use Rattle.expr_steps.specs.declared.step.Step.TheVariants as step
use Rattle.expr_steps.specs.declared.standing.Standing.{Standing}
use Rattle.expr_steps.specs.declared.standing.Standing.TheVariants.{Free, OverCfa}
use Rattle.expr_steps.specs.Steps.{steps}
use Rattle.expr_steps.specs.Standing.{words, depth_after, is_one, standing_by, standing_of, has_bounds}
use Rattle.expr_steps.proofs.BoundLemmas.{steps_bounded}
use Rattle.expr_steps.proofs.StandingLemmas.{some_words}
use Rattle.expr_postfix.specs.ExprTokens.{number, step_tokens, steps_tokens, tokens_by, expr_tokens, is_expr_word}
use Rattle.expr_postfix.proofs.TokenLemmas.{steps_front, steps_none}
use Rattle.expr_postfix.proofs.WholeLemmas.{free_depth, free_by, over_by}

-- How many words there are.
step_length : (s : Step) → length (step_tokens s) ≡ words s
step_length (step.Constant value) = refl
step_length (step.Register register offset) = refl
step_length step.Fetch = refl
step_length step.Add = refl
step_length step.Subtract = refl
step_length step.Multiply = refl
step_length (step.AddConstant addend) = refl
step_length (step.Remainder size) = refl
step_length (step.Product factor) = refl
step_length (step.Reaches lift size) = refl

steps_length : (made : List Step) → length (steps_tokens made) ≡ sum_by words made
steps_length [] = ap length steps_none
steps_length (s ∷ later) =
    ap length (steps_front s later)
    ∙ length-append (step_tokens s) (steps_tokens later)
    ∙ ap (λ n. n + length (steps_tokens later)) (step_length s)
    ∙ ap (λ n. words s + n) (steps_length later)
    ∙ sym (sum_by-cons words s later)

free_count : (start : Bool) (made : List Step) → standing_of start made ≡ Some Free → sum_by words made ≤ 1024
unfolding standing_of standing_by
free_count start made is =
    leb-true (sum_by words made) 1024 (and_true {a = is_one (depth_after made (Some 0))}
    (free_by (is_one (depth_after made (Some 0)) && nat_le (sum_by words made) 1024) (start && is_one (depth_after made (Some 1)) && nat_le (sum_by words made + 1) 1024) is)).1

over_count : (start : Bool) (made : List Step) → standing_of start made ≡ Some OverCfa → sum_by words made + 1 ≤ 1024
unfolding standing_of standing_by
over_count start made is =
    leb-true (sum_by words made + 1) 1024 (and_true {a = start && is_one (depth_after made (Some 1))}
    (over_by (is_one (depth_after made (Some 0)) && nat_le (sum_by words made) 1024) (start && is_one (depth_after made (Some 1)) && nat_le (sum_by words made + 1) 1024) is)).1

some_steps : (made : List Step) → depth_after made (Some 0) ≡ Some 1 → 0 < sum_by words made
unfolding depth_after
some_steps [] one = cc
some_steps (s ∷ later) one = omega (arith, sum_by-cons words s later, some_words s)

pub record Few (ws : List Token) : Type 0 where
  pub some : 0 < length ws
  pub most : length ws ≤ 1024

few_by : (start : Bool) (made : List Step) (stands : Option Standing) (ws : List Token) → standing_of start made ≡ stands → tokens_by made stands ≡ Some ws → Few ws
few_by start made None ws is words_are = cc
few_by start made (Some Free) ws is words_are =
    let same : steps_tokens made ≡ ws = cc in
    let count : length ws ≡ sum_by words made = sym (ap length same) ∙ steps_length made in
    record { some = omega (arith, count, some_steps made (free_depth start made is)); most = omega (arith, count, free_count start made is) }
few_by start made (Some OverCfa) ws is words_are =
    let same : token.Cfa ∷ steps_tokens made ≡ ws = cc in
    let count : length ws ≡ 1 + sum_by words made = sym (ap length same) ∙ (let one : length (token.Cfa ∷ steps_tokens made) ≡ 1 + length (steps_tokens made) = omega arith in one) ∙ ap (λ n. 1 + n) (steps_length made) in
    record { some = omega (arith, count); most = omega (arith, count, over_count start made is) }

few_of : (start : Bool) (made : Option (List Step)) (ws : List Token) → option_and_then (λ given. tokens_by given (standing_of start given)) made ≡ Some ws → Few ws
few_of start None ws words_are = cc
few_of start (Some made) ws words_are = few_by start made (standing_of start made) ws refl words_are

few_words : (start : Bool) (bytes : List ℕ) (ws : List Token) → expr_tokens start bytes ≡ Some ws → Few ws
unfolding expr_tokens
few_words start bytes ws words_are = few_of start (steps bytes) ws words_are

pub words_some : (start : Bool) (bytes : List ℕ) (ws : List Token) → expr_tokens start bytes ≡ Some ws → 0 < length ws
words_some start bytes ws words_are = (few_words start bytes ws words_are).some

pub words_few : (start : Bool) (bytes : List ℕ) (ws : List Token) → expr_tokens start bytes ≡ Some ws → length ws ≤ 1024
words_few start bytes ws words_are = (few_words start bytes ws words_are).most

-- Which words there are.
cast_fits : (n : ℕ) → fits_i64 (cast_signed w64 n) ≡ true
cast_fits n =
    elim_bool (nat_lt n (2 ^ 63)) (λ t. nat_lt n (2 ^ 63) ≡ t → fits_i64 (cond t (pos n) (negsuc (2 ^ 64 - suc n))) ≡ true)
    (λ _ is. is) (λ _ is. lt-ltb (2 ^ 64 - suc n) (2 ^ 63) (omega (arith, ltb-false n (2 ^ 63) is))) refl

number_fits : (n : ℕ) → is_expr_word (number n) ≡ true
number_fits n = cast_fits (n % 2 ^ 64)

named_fits : (register : ℕ) (is_rip : Bool) → nat_eq register 16 ≡ is_rip → register ≤ 16 → is_expr_word (cond is_rip (token.Other (codes "$rip")) (token.Reg register)) ≡ true
named_fits register true is low = refl
named_fits register false is low =
    let other : register ≢ 16 = eqb-false register 16 is in
    lt-ltb register 16 (omega arith)

with_sign : (n : ℕ) (sign : Token) (rest : List Token) → is_expr_word sign ≡ true → list_all is_expr_word rest ≡ true → list_all is_expr_word (number n ∷ sign ∷ rest) ≡ true
with_sign n sign rest plain all = both (number_fits n) (both plain all)

step_fits : (s : Step) → has_bounds s ≡ true → list_all is_expr_word (step_tokens s) ≡ true
step_fits (step.Constant value) bounds = both (number_fits value) refl
step_fits (step.Register register offset) bounds =
    let parts = and_true {a = nat_le register 16} {b = fits_i64 offset} bounds in
    both (named_fits register (nat_eq register 16) refl (leb-true register 16 parts.0)) (both parts.1 refl)
step_fits step.Fetch bounds = refl
step_fits step.Add bounds = refl
step_fits step.Subtract bounds = refl
step_fits step.Multiply bounds = refl
step_fits (step.AddConstant addend) bounds = with_sign addend token.Add [] refl refl
step_fits (step.Remainder size) bounds = with_sign size token.Rem [] refl refl
step_fits (step.Product factor) bounds = with_sign factor token.Mul [] refl refl
step_fits (step.Reaches lift size) bounds = with_sign lift token.Add (number size ∷ token.Div ∷ []) refl (with_sign size token.Div [] refl refl)

steps_fit : (made : List Step) → list_all has_bounds made ≡ true → list_all is_expr_word (steps_tokens made) ≡ true
steps_fit [] all = ap (list_all is_expr_word) steps_none
steps_fit (s ∷ later) all =
    let parts = and_true {a = has_bounds s} {b = list_all has_bounds later} all in
    ap (list_all is_expr_word) (steps_front s later) ∙ list_all-append is_expr_word (step_tokens s) (steps_tokens later) ∙ both (step_fits s parts.0) (steps_fit later parts.1)

fit_by : (made : List Step) (stands : Option Standing) (ws : List Token) → list_all has_bounds made ≡ true → tokens_by made stands ≡ Some ws → list_all is_expr_word ws ≡ true
fit_by made None ws all words_are = cc
fit_by made (Some Free) ws all words_are = let same : steps_tokens made ≡ ws = cc in sym (ap (list_all is_expr_word) same) ∙ steps_fit made all
fit_by made (Some OverCfa) ws all words_are = let same : token.Cfa ∷ steps_tokens made ≡ ws = cc in sym (ap (list_all is_expr_word) same) ∙ steps_fit made all

fit_of : (start : Bool) (made : Option (List Step)) (ws : List Token) → ((given : List Step) → made ≡ Some given → list_all has_bounds given ≡ true)
    → option_and_then (λ given. tokens_by given (standing_of start given)) made ≡ Some ws → list_all is_expr_word ws ≡ true
fit_of start None ws all words_are = cc
fit_of start (Some made) ws all words_are = fit_by made (standing_of start made) ws (all made refl) words_are

pub words_plain : (start : Bool) (bytes : List ℕ) (ws : List Token) → expr_tokens start bytes ≡ Some ws → list_all is_expr_word ws ≡ true
unfolding expr_tokens
words_plain start bytes ws words_are = fit_of start (steps bytes) ws (steps_bounded bytes) words_are
