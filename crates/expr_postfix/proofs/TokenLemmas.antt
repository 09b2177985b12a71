-- The words of an expression while they are added. The lemmas are for `number`, `add_comparison`,
-- `add_steps` and `words_of`.
use Rattle.std.proofs.Common.{◌≡◌, ◌<◌, ◌%◌, ◌^◌, ℕ, Bool, true, false, List, [], ◌∷◌, ◌++◌, Option, None, Some, refl, sym, ap, ◌∙◌, append_assoc, append-nil, arith}
use Rattle.std.specs.Int.{w64, cast_signed}
use Rattle.std.specs.Option.{is_some, option_and_then}
use Rattle.std.proofs.lemmas.List.Concat.{flat_map-cons}
use Rattle.sym_rules.specs.declared.rules.Token.{Token}
use Rattle.sym_rules.specs.declared.rules.Token.TheVariants as token
use Rattle.expr_steps.specs.declared.step.Step.{Step}
use Rattle.expr_steps.specs.declared.step.Step.TheVariants as step
use Rattle.expr_steps.specs.declared.standing.Standing.{Standing}
use Rattle.expr_steps.specs.declared.standing.Standing.TheVariants.{Free, OverCfa}
use Rattle.expr_steps.specs.Steps.{in_front, steps}
use Rattle.expr_steps.specs.Standing.{standing_of, standing}
use Rattle.expr_postfix.specs.ExprTokens.{number, step_tokens, steps_tokens, tokens_by, expr_tokens}
use Rattle.expr_postfix.specs.internal.Adding.{first_tokens, added, count_left}

pub small_number : (value : ℕ) → value < 2 ^ 64 → token.Number (cast_signed w64 value) ≡ number value
small_number value small = let same : value ≡ value % 2 ^ 64 = omega arith in ap (λ n. token.Number (cast_signed w64 n)) same

pub adds_comparison : (lift size : ℕ) (old mid new : List Token) → mid ≡ old ++ number lift ∷ token.Add ∷ [] → new ≡ mid ++ number size ∷ token.Div ∷ [] → new ≡ old ++ step_tokens (step.Reaches lift size)
adds_comparison lift size old mid new first second = second ∙ ap (λ ws. ws ++ number size ∷ token.Div ∷ []) first ∙ append_assoc old (number lift ∷ token.Add ∷ []) (number size ∷ token.Div ∷ [])

-- The words of the first step, and those of the steps after it.
pub steps_front : (s : Step) (later : List Step) → steps_tokens (s ∷ later) ≡ step_tokens s ++ steps_tokens later
unfolding steps_tokens
steps_front s later = flat_map-cons step_tokens s later

pub steps_none : steps_tokens [] ≡ []
unfolding steps_tokens
steps_none = refl

front_adds : (s : Step) (left : Option (List Step)) (held : List Token) → added (in_front s left) held ≡ added left (held ++ step_tokens s)
front_adds s None held = refl
front_adds s (Some later) held = ap Some (ap (λ ws. held ++ ws) (steps_front s later) ∙ sym (append_assoc held (step_tokens s) (steps_tokens later)))

pub adds_more : (s : Step) (old new : Option (List Step)) (held more : List Token) → old ≡ in_front s new → more ≡ held ++ step_tokens s → added old held ≡ added new more
adds_more s old new held more is words = ap (λ o. added o held) is ∙ front_adds s new held ∙ ap (added new) (sym words)

pub adds_all : (left : Option (List Step)) (held : List Token) → left ≡ Some [] → added left held ≡ Some held
adds_all left held is = ap (λ o. added o held) is ∙ ap Some (ap (λ ws. held ++ ws) steps_none ∙ append-nil held)

front_made : (s : Step) (new : Option (List Step)) → is_some (in_front s new) ≡ true → is_some new ≡ true
front_made s None made = made
front_made s (Some later) made = refl

pub still_made : (s : Step) (old new : Option (List Step)) → old ≡ in_front s new → is_some old ≡ true → is_some new ≡ true
still_made s old new is made = front_made s new (sym (ap is_some is) ∙ made)

front_fewer : (s : Step) (new : Option (List Step)) → is_some new ≡ true → count_left new < count_left (in_front s new)
front_fewer s None made = cc
front_fewer s (Some later) made = omega arith

pub fewer : (s : Step) (old new : Option (List Step)) → old ≡ in_front s new → is_some old ≡ true → count_left new < count_left old
fewer s old new is made = rw is (front_fewer s new (still_made s old new is made))

pub made_not : (P : Type 0) (left : Option (List Step)) → is_some left ≡ true → left ≡ None → P
made_not P left made is = let no : false ≡ true = sym (ap is_some is) ∙ made in cc

-- An expression that rule text can express is made of steps.
made_by : (start : Bool) (left : Option (List Step)) (stands : Standing) → Some stands ≡ option_and_then (standing_of start) left → is_some left ≡ true
made_by start None stands is = cc
made_by start (Some given) stands is = refl

pub stands_made : (start : Bool) (bytes : List ℕ) (stands : Standing) → Some stands ≡ standing start bytes → is_some (steps bytes) ≡ true
unfolding standing
stands_made start bytes stands is = made_by start (steps bytes) stands is

-- The words of an expression are the first words and those of its steps.
by_standing : (given : List Step) (stands : Standing) → tokens_by given (Some stands) ≡ Some (first_tokens stands ++ steps_tokens given)
by_standing given Free = refl
by_standing given OverCfa = refl

words_by : (start : Bool) (left : Option (List Step)) (stands : Standing) (words : List Token) → Some stands ≡ option_and_then (standing_of start) left → added left (first_tokens stands) ≡ Some words
    → option_and_then (λ given. tokens_by given (standing_of start given)) left ≡ Some words
words_by start None stands words is all = cc
words_by start (Some given) stands words is all = ap (tokens_by given) (sym is) ∙ by_standing given stands ∙ all

pub words_are : (start : Bool) (bytes : List ℕ) (stands : Standing) (first words : List Token) → Some stands ≡ standing start bytes → first ≡ first_tokens stands → added (steps bytes) first ≡ Some words
    → expr_tokens start bytes ≡ Some words
unfolding standing expr_tokens
words_are start bytes stands first words is begin all = words_by start (steps bytes) stands words is (ap (added (steps bytes)) (sym begin) ∙ all)

none_by : (start : Bool) (left : Option (List Step)) → None ≡ option_and_then (standing_of start) left → option_and_then (λ given. tokens_by given (standing_of start given)) left ≡ None
none_by start None is = refl
none_by start (Some given) is = ap (tokens_by given) (sym is)

pub no_words : (start : Bool) (bytes : List ℕ) → None ≡ standing start bytes → expr_tokens start bytes ≡ None
unfolding standing expr_tokens
no_words start bytes is = none_by start (steps bytes) is
