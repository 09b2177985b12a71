-- The bytes between `_ZN` and the hash, and what they show, for `text_of`.
use Rattle.std.proofs.Common.{◌≡◌, ℕ, Bool, true, false, cond, List, [], ◌++◌, Option, Some, None, refl, sym, ◌∙◌, ap}
use Rattle.std.specs.Option.{option_map, option_and_then}
use Rattle.rust_names.specs.Legacy.{is_shown_text}
use Rattle.rust_names.specs.internal.Reading.{middle_of, parts_of, parts_text, some_joined, text_if, legacy_of, kept}

pub no_middle : (name : List ℕ) → middle_of name ≡ None → None ≡ legacy_of name
unfolding legacy_of
no_middle name none = sym (ap (λ o. option_and_then text_if (option_and_then some_joined (option_and_then parts_of o))) none)

of_middle : (name middle : List ℕ) → middle_of name ≡ Some middle → legacy_of name ≡ option_and_then text_if (parts_text middle)
unfolding legacy_of parts_text
of_middle name middle is = ap (λ o. option_and_then text_if (option_and_then some_joined (option_and_then parts_of o))) is

kept_some : (o : Option (List ℕ)) (text : List ℕ) → option_map (λ t. [] ++ t) o ≡ Some text → o ≡ Some text
kept_some None text is = cc
kept_some (Some t) text is = is

kept_none : (o : Option (List ℕ)) → option_map (λ t. [] ++ t) o ≡ None → o ≡ None
kept_none None is = refl
kept_none (Some t) is = cc

pub no_parts : (name middle : List ℕ) → middle_of name ≡ Some middle → option_map (λ t. [] ++ t) (parts_text middle) ≡ None → None ≡ legacy_of name
no_parts name middle is none = sym (of_middle name middle is ∙ ap (option_and_then text_if) (kept_none (parts_text middle) none))

pub no_text : (name middle text : List ℕ) → middle_of name ≡ Some middle → option_map (λ t. [] ++ t) (parts_text middle) ≡ Some text → is_shown_text text ≡ false → None ≡ legacy_of name
no_text name middle text is found unfit = sym (of_middle name middle is ∙ ap (option_and_then text_if) (kept_some (parts_text middle) text found) ∙ ap (λ t. cond t (Some text) None) unfit)

pub some_text : (name middle text : List ℕ) → middle_of name ≡ Some middle → option_map (λ t. [] ++ t) (parts_text middle) ≡ Some text → is_shown_text text ≡ true → Some text ≡ legacy_of name
some_text name middle text is found fits = sym (of_middle name middle is ∙ ap (option_and_then text_if) (kept_some (parts_text middle) text found) ∙ ap (λ t. cond t (Some text) None) fits)

-- What was added to an empty text.
pub filled : {front : List ℕ} (middle new : List ℕ) (all whole : Bool) → front ≡ [] → option_map (λ t. front ++ t) (parts_text middle) ≡ kept all new → all ≡ whole → option_map (λ t. [] ++ t) (parts_text middle) ≡ kept whole new
filled middle new all whole empty is which = ap (λ (xs : List ℕ). option_map (λ t. xs ++ t) (parts_text middle)) (sym empty) ∙ is ∙ ap (λ b. kept b new) which
