-- The form of a frame rule (Breakpad's symbol_files.md, "STACK CFI"). Words may add numbers to a
-- register or to the CFA, or subtract them, and may then fetch what memory holds at the sum. The
-- form of such words is the sum or the fetch, so that different spellings have one form, such as
-- `$rsp 16 +` and `16 $rsp +`. Other words are their own form.
use Rattle.std.specs.Prelude.{ℕ, ◌+◌, ◌-◌, ◌%◌, ◌^◌, ◌==◌, ◌&&◌, Bool, true, false, if◌then◌else◌, List, [], ◌∷◌, Option, None, Some}
use Rattle.std.specs.Int.{cast_unsigned, w64}
use Rattle.std.specs.Option.{option_map, option_and_then}
use Rattle.std.specs.Ordering.{int_eq}
use Rattle.std.specs.Str.{bytes_eq}
use Rattle.sym_edges.specs.Abi.{Default, KeepsValue, IsCfa, Unspecified, default_of}
use Rattle.sym_rules.specs.declared.rules.Target.{Target}
use Rattle.sym_rules.specs.declared.rules.Target.TheVariants as target
use Rattle.sym_rules.specs.declared.rules.Token.{Token}
use Rattle.sym_rules.specs.declared.rules.Token.TheVariants as token
use Rattle.sym_rules.specs.declared.rules.RuleText.{RuleText}
use Rattle.cfi_eval.specs.TextRules.{rule_for}
use Rattle.sym_judge.specs.declared.terms.Base.{Base}
use Rattle.sym_judge.specs.declared.terms.Base.TheVariants as base
use Rattle.sym_judge.specs.declared.terms.Sum.{Sum}
use Rattle.sym_judge.specs.declared.terms.Term.{Term}
use Rattle.sym_judge.specs.declared.terms.Term.TheVariants.{Plain, Fetched}

-- a base and a number added to it
abbrev pub sum : Base → ℕ → Sum
sum b n = record { base = b; offset = n }

-- two bases can be added if at least one of them is nothing
abbrev pub joined_base : Base → Base → Option Base
joined_base a base.Nothing = Some a
joined_base base.Nothing b = Some b
joined_base _ _ = None

abbrev pub added : Sum → Sum → Option Sum
added a b = option_map (λ c. sum c ((a.offset + b.offset) % 2 ^ 64)) (joined_base a.base b.base)

-- only a number without a base can be subtracted
abbrev pub taken_base : Base → Base → Option Base
taken_base a base.Nothing = Some a
taken_base _ _ = None

abbrev pub taken : Sum → Sum → Option Sum
taken a b = option_map (λ c. sum c ((a.offset + (2 ^ 64 - b.offset)) % 2 ^ 64)) (taken_base a.base b.base)

-- `+` or `-` takes the two top sums from the stack, the topmost as its second operand, and leaves
-- one sum
abbrev pub of_two : (Sum → Sum → Option Sum) → List Term → Option (List Term)
of_two sign (Plain b ∷ Plain a ∷ terms) = option_map (λ s. Plain s ∷ terms) (sign a b)
of_two sign _ = None

-- `^` takes one sum and leaves the fetch at it
abbrev pub fetched : List Term → Option (List Term)
fetched (Plain a ∷ terms) = Some (Fetched a ∷ terms)
fetched _ = None

-- the stack after a word; none if the word has no place in a sum or fetch, such as `.cfa` inside its own rule
unfoldable pub with_word : Bool → Token → List Term → Option (List Term)
with_word inside (token.Number n) terms = Some (Plain (sum base.Nothing (cast_unsigned w64 n)) ∷ terms)
with_word inside (token.Reg register) terms = Some (Plain (sum (base.Register register) 0) ∷ terms)
with_word inside token.Cfa terms = if inside then None else Some (Plain (sum base.Cfa 0) ∷ terms)
with_word inside token.Add terms = of_two added terms
with_word inside token.Sub terms = of_two taken terms
with_word inside token.Fetch terms = fetched terms
with_word inside _ terms = None

-- the stack after some words
unfoldable pub terms_after : Bool → List Token → List Term → Option (List Term)
terms_after inside [] terms = Some terms
terms_after inside (word ∷ words) terms = option_and_then (terms_after inside words) (with_word inside word terms)

-- the term of a stack, if it has only one
abbrev pub one_term : Option (List Term) → Option Term
one_term (Some (t ∷ [])) = Some t
one_term _ = None

unfoldable pub term_of : Bool → List Token → Option Term
term_of inside words = one_term (terms_after inside words [])

-- a form: a sum, or what memory holds at a sum; no value; or the words themselves
pub data Form : Type 0 where
  of_term : Term → Form
  no_value : Form
  of_words : List Token → Form

abbrev pub or_words : List Token → Option Term → Form
or_words words None = of_words words
or_words words (Some t) = of_term t

unfoldable pub form_of : Bool → List Token → Form
form_of inside (token.Undef ∷ []) = no_value
form_of inside words = or_words words (term_of inside words)

-- the form of a missing rule: a register that a call keeps has its own value, rsp is the CFA, and nothing is known of the other registers (System V
-- ABI for AMD64, section 3.2.1)
abbrev pub default_form : Default → ℕ → Form
default_form KeepsValue register = of_term (Plain (sum (base.Register register) 0))
default_form IsCfa register = of_term (Plain (sum base.Cfa 0))
default_form Unspecified register = no_value

abbrev pub missing_form : Target → Form
missing_form (target.Reg register) = default_form (default_of register) register
missing_form _ = no_value

abbrev pub is_cfa : Target → Bool
is_cfa target.Cfa = true
is_cfa _ = false

-- the form of a target's rule; if there is no rule, the form of a missing one
abbrev pub form_by : Target → Option (List Token) → Form
form_by t None = missing_form t
form_by t (Some words) = form_of (is_cfa t) words

unfoldable pub rule_form : Target → List RuleText → Form
rule_form t rules = form_by t (rule_for t rules)

-- whether two forms are the same; the first two tests are of their parts
abbrev pub same_base : Base → Base → Bool
same_base base.Nothing base.Nothing = true
same_base (base.Register a) (base.Register b) = a == b
same_base base.Cfa base.Cfa = true
same_base _ _ = false

abbrev pub same_sum : Sum → Sum → Bool
same_sum a b = same_base a.base b.base && (a.offset == b.offset)

abbrev pub same_term : Term → Term → Bool
same_term (Plain a) (Plain b) = same_sum a b
same_term (Fetched a) (Fetched b) = same_sum a b
same_term _ _ = false

abbrev pub same_token : Token → Token → Bool
same_token (token.Number a) (token.Number b) = int_eq a b
same_token (token.Reg a) (token.Reg b) = a == b
same_token token.Cfa token.Cfa = true
same_token token.Undef token.Undef = true
same_token (token.Other a) (token.Other b) = bytes_eq a b
same_token token.Add token.Add = true
same_token token.Sub token.Sub = true
same_token token.Mul token.Mul = true
same_token token.Div token.Div = true
same_token token.Rem token.Rem = true
same_token token.Align token.Align = true
same_token token.Fetch token.Fetch = true
same_token _ _ = false

abbrev pub same_words : List Token → List Token → Bool
same_words [] [] = true
same_words (a ∷ words) (b ∷ others) = same_token a b && same_words words others
same_words _ _ = false

abbrev pub same_form : Form → Form → Bool
same_form (of_term a) (of_term b) = same_term a b
same_form no_value no_value = true
same_form (of_words a) (of_words b) = same_words a b
same_form _ _ = false
