-- Stacks of terms as the code stores them, with the top at the end; and forms as it stores them.
use Rattle.std.specs.Prelude.{◌≡◌, Bool, true, false, List, [], ◌∷◌, reverse, Option, Some, None}
use Rattle.sym_rules.specs.declared.rules.Token.{Token}
use Rattle.sym_rules.specs.declared.rules.Token.TheVariants as token
use Rattle.sym_judge.specs.declared.terms.Sum.{Sum}
use Rattle.sym_judge.specs.declared.terms.Term.{Term}
use Rattle.sym_judge.specs.declared.forms.Form.{Form}
use Rattle.sym_judge.specs.declared.forms.Form.TheVariants as kept
use Rattle.sym_judge.specs.Forms as forms

-- there is no sum on top
abbrev pub HasNoSum : List Term → Type 0
HasNoSum stack = forms.fetched (reverse stack) ≡ None

-- there are no two sums on top
abbrev pub HasNoTwo : List Term → Type 0
HasNoTwo stack = (sign : Sum → Sum → Option Sum) → forms.of_two sign (reverse stack) ≡ None

-- the term of a stack, if it has only one
abbrev pub one_of : List Term → Option Term
one_of terms = forms.one_term (Some terms)

-- whether the words are `.undef` alone
abbrev pub is_undefined : List Token → Bool
is_undefined (token.Undef ∷ []) = true
is_undefined _ = false

abbrev pub form_view : Form → forms.Form
form_view (kept.Term t) = forms.of_term t
form_view kept.NoValue = forms.no_value
form_view (kept.Words words) = forms.of_words words.now
