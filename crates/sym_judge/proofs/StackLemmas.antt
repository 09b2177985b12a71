-- Lemmas about stacks of terms, and about words that are evaluated one after another.
use Rattle.std.proofs.Common.{◌≡◌, ℕ, ◌+◌, ◌<◌, ◌≤◌, Bool, true, false, List, [], ◌∷◌, ◌++◌, length, get_or, drop, reverse, Option, None, Some, refl, sym, ap, ◌∙◌}
use Rattle.std.proofs.lemmas.List.{drop_more, drop_all, reverse-append}
use Rattle.std.specs.Option.{option_and_then}
use Rattle.sym_rules.specs.declared.rules.Token.{Token}
use Rattle.sym_rules.specs.declared.rules.Token.TheVariants.{Undef}
use Rattle.sym_judge.specs.declared.terms.Sum.{Sum}
use Rattle.sym_judge.specs.declared.terms.Term.{Term}
use Rattle.sym_judge.specs.declared.terms.Term.TheVariants.{Plain, Fetched}
use Rattle.sym_judge.specs.Forms.{fetched, of_two, with_word, terms_after, one_term, term_of, no_value, or_words, form_of}
use Rattle.sym_judge.specs.internal.Stacks.{HasNoSum, HasNoTwo, is_undefined}

pub no_sum_none : (stack : List Term) → stack ≡ [] → HasNoSum stack
no_sum_none stack e = rw e refl

pub no_sum_fetched : (stack below : List Term) (s : Sum) → stack ≡ below ++ Fetched s ∷ [] → HasNoSum stack
no_sum_fetched stack below s e = rw (e, reverse-append below (Fetched s ∷ [])) refl

-- A stack without a sum on top has no two sums on top.
none_no_two_of : (stack : List Term) → fetched stack ≡ None → (sign : Sum → Sum → Option Sum) → of_two sign stack ≡ None
none_no_two_of [] h sign = refl
none_no_two_of (Plain s ∷ stack) h sign = absurd (cc)
none_no_two_of (Fetched s ∷ stack) h sign = refl

pub none_no_two : (stack : List Term) → HasNoSum stack → HasNoTwo stack
none_no_two stack h sign = none_no_two_of (reverse stack) h sign

-- A stack with only one sum on top has no two sums on top.
one_no_two_of : (stack : List Term) → fetched stack ≡ None → (b : Sum) (sign : Sum → Sum → Option Sum) → of_two sign (Plain b ∷ stack) ≡ None
one_no_two_of [] h b sign = refl
one_no_two_of (Plain s ∷ stack) h b sign = absurd (cc)
one_no_two_of (Fetched s ∷ stack) h b sign = refl

pub one_no_two : (stack below : List Term) (b : Sum) → reverse stack ≡ Plain b ∷ reverse below → HasNoSum below → HasNoTwo stack
one_no_two stack below b e h sign = rw e (one_no_two_of (reverse below) h b sign)

-- One word.
pub terms_more : (inside : Bool) (words : List Token) (i : ℕ) (word : Token) (stack next : List Term) → i < length words → word ≡ get_or words i word → with_word inside word stack ≡ Some next
    → terms_after inside (drop i words) stack ≡ terms_after inside (drop (i + 1) words) next
unfolding terms_after
terms_more inside words i word stack next l e h =
    let now : drop i words ≡ word ∷ drop (i + 1) words = drop_more words i word l ∙ ap (λ t. t ∷ drop (i + 1) words) (sym e) in
    rw now (ap (option_and_then (terms_after inside (drop (i + 1) words))) h)

pub terms_fail : (inside : Bool) (words : List Token) (i : ℕ) (word : Token) (stack : List Term) → i < length words → word ≡ get_or words i word → with_word inside word stack ≡ None → terms_after inside (drop i words) stack ≡ None
unfolding terms_after
terms_fail inside words i word stack l e h =
    let now : drop i words ≡ word ∷ drop (i + 1) words = drop_more words i word l ∙ ap (λ t. t ∷ drop (i + 1) words) (sym e) in
    rw now (ap (option_and_then (terms_after inside (drop (i + 1) words))) h)

pub terms_end : (inside : Bool) (words : List Token) (i : ℕ) (stack : List Term) → length words ≤ i → terms_after inside (drop i words) stack ≡ Some stack
unfolding terms_after
terms_end inside words i stack l = rw (drop_all i words l) refl

pub term_is : (inside : Bool) (words : List Token) → term_of inside words ≡ one_term (terms_after inside words [])
unfolding term_of
term_is inside words = refl

pub term_pushed : (stack : List Term) (t : Term) → t ∷ reverse stack ≡ reverse (stack ++ t ∷ [])
term_pushed stack t = sym (reverse-append stack (t ∷ []))

-- A single `.undef`, and other words.
pub form_undefined : (inside : Bool) (words : List Token) → is_undefined words ≡ true → form_of inside words ≡ no_value
unfolding form_of
form_undefined inside [] h = absurd (cc)
form_undefined inside (Undef ∷ []) h = refl
form_undefined inside (_ ∷ _) h = absurd (cc)

pub form_defined : (inside : Bool) (words : List Token) → is_undefined words ≡ false → form_of inside words ≡ or_words words (term_of inside words)
unfolding form_of
form_defined inside [] h = refl
form_defined inside (Undef ∷ []) h = absurd (cc)
form_defined inside (_ ∷ _) h = refl
