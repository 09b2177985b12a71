-- Values that pass a test of equality are equal.
use Rattle.std.proofs.Common.{◌≡◌, ℕ, ◌==◌, ◌&&◌, Bool, true, false, List, [], ◌∷◌, Option, None, Some, refl, ap, ◌∙◌}
use Rattle.std.specs.Str.{bytes_eq}
use Rattle.std.proofs.lemmas.Bool.Decides.{Decides-eqb, Decides-int_eq}
use Rattle.std.proofs.lemmas.Slice.Eq.{bytes_eq-Decides}
use Rattle.sym_rules.specs.declared.rules.Token.{Token}
use Rattle.sym_rules.specs.declared.rules.Token.TheVariants as token
use Rattle.sym_judge.specs.declared.terms.Base.{Base}
use Rattle.sym_judge.specs.declared.terms.Base.TheVariants as base
use Rattle.sym_judge.specs.declared.terms.Sum.{Sum}
use Rattle.sym_judge.specs.declared.terms.Term.{Term}
use Rattle.sym_judge.specs.declared.terms.Term.TheVariants.{Plain, Fetched}
use Rattle.sym_judge.specs.Forms.{Form, of_term, no_value, of_words, same_base, same_sum, same_term, same_token, same_words, same_form}
use Rattle.sym_judge.specs.Alike.{same_option, same_line}

-- The test holds only for equal values, and it holds for each value and itself.
pub record Tells {A : Type 0} (same : A → A → Bool) : Type 0 where
  pub true_is : (a b : A) → same a b ≡ true → a ≡ b
  pub self : (a : A) → same a a ≡ true

pub and_left : (a b : Bool) → (a && b) ≡ true → a ≡ true
and_left true b is = refl
and_left false b is = cc

pub and_right : (a b : Bool) → (a && b) ≡ true → b ≡ true
and_right true b is = is
and_right false b is = cc

pub and_both : (a b : Bool) → a ≡ true → b ≡ true → (a && b) ≡ true
and_both a b p q = ap (λ c. c && b) p ∙ q

pub numbers : (a b : ℕ) → (a == b) ≡ true → a ≡ b
numbers a b = (Decides-eqb a b).0

pub number_self : (a : ℕ) → (a == a) ≡ true
number_self a = (Decides-eqb a a).1 refl

pub bytes_tell : Tells bytes_eq
bytes_tell = record { true_is = λ a b. (bytes_eq-Decides a b).0; self = λ a. (bytes_eq-Decides a a).1 refl }

base_true : (a b : Base) → same_base a b ≡ true → a ≡ b
base_true base.Nothing base.Nothing is = refl
base_true (base.Register r) (base.Register q) is = ap (λ n. base.Register n) (numbers r q is)
base_true base.Cfa base.Cfa is = refl
base_true _ _ is = absurd (cc)

base_self : (a : Base) → same_base a a ≡ true
base_self base.Nothing = refl
base_self (base.Register r) = number_self r
base_self base.Cfa = refl

sum_true : (a b : Sum) → same_sum a b ≡ true → a ≡ b
sum_true a b is =
    let p : a.base ≡ b.base = base_true a.base b.base (and_left _ _ is) in
    let q : a.offset ≡ b.offset = numbers a.offset b.offset (and_right _ _ is) in
    ap (λ c. record { base = c; offset = a.offset }) p ∙ ap (λ n. record { base = b.base; offset = n }) q

sum_self : (a : Sum) → same_sum a a ≡ true
sum_self a = and_both _ _ (base_self a.base) (number_self a.offset)

term_true : (a b : Term) → same_term a b ≡ true → a ≡ b
term_true (Plain a) (Plain b) is = ap (λ s. Plain s) (sum_true a b is)
term_true (Fetched a) (Fetched b) is = ap (λ s. Fetched s) (sum_true a b is)
term_true _ _ is = absurd (cc)

term_self : (a : Term) → same_term a a ≡ true
term_self (Plain a) = sum_self a
term_self (Fetched a) = sum_self a

pub never : {P : Type 0} → false ≡ true → P
never is = absurd (cc)

pub some_is : {A : Type 0} {a b : A} → Some a ≡ Some b → a ≡ b
some_is e = cc

token_true : (a b : Token) → same_token a b ≡ true → a ≡ b
token_true (token.Number a) (token.Number b) is = ap (λ n. token.Number n) ((Decides-int_eq a b).0 is)
token_true (token.Reg a) (token.Reg b) is = ap (λ n. token.Reg n) (numbers a b is)
token_true token.Cfa token.Cfa is = refl
token_true token.Undef token.Undef is = refl
token_true (token.Other a) (token.Other b) is = ap (λ n. token.Other n) ((bytes_eq-Decides a b).0 is)
token_true token.Add token.Add is = refl
token_true token.Sub token.Sub is = refl
token_true token.Mul token.Mul is = refl
token_true token.Div token.Div is = refl
token_true token.Rem token.Rem is = refl
token_true token.Align token.Align is = refl
token_true token.Fetch token.Fetch is = refl
token_true _ _ is = never is

token_self : (a : Token) → same_token a a ≡ true
token_self (token.Number a) = (Decides-int_eq a a).1 refl
token_self (token.Reg a) = number_self a
token_self (token.Other a) = (bytes_eq-Decides a a).1 refl
token_self _ = refl

words_true : (a b : List Token) → same_words a b ≡ true → a ≡ b
words_true [] [] is = refl
words_true [] (y ∷ ys) is = never is
words_true (x ∷ xs) [] is = never is
words_true (x ∷ xs) (y ∷ ys) is = ap (λ z. z ∷ xs) (token_true x y (and_left _ _ is)) ∙ ap (λ zs. y ∷ zs) (words_true xs ys (and_right _ _ is))

pub words_self : (a : List Token) → same_words a a ≡ true
words_self [] = refl
words_self (x ∷ xs) = and_both _ _ (token_self x) (words_self xs)

pub words_tell : Tells same_words
words_tell = record { true_is = words_true; self = words_self }

form_true : (a b : Form) → same_form a b ≡ true → a ≡ b
form_true (of_term a) (of_term b) is = ap (λ t. of_term t) (term_true a b is)
form_true no_value no_value is = refl
form_true (of_words a) (of_words b) is = ap (λ t. of_words t) (words_true a b is)
form_true _ _ is = never is

form_self : (a : Form) → same_form a a ≡ true
form_self (of_term a) = term_self a
form_self no_value = refl
form_self (of_words a) = words_self a

pub forms_tell : Tells same_form
forms_tell = record { true_is = form_true; self = form_self }

-- Optional values, lists, lines and calls.
option_true : {A : Type 0} (same : A → A → Bool) → Tells same → (a b : Option A) → same_option same a b ≡ true → a ≡ b
option_true same tells None None is = refl
option_true same tells None (Some b) is = never is
option_true same tells (Some a) None is = never is
option_true same tells (Some a) (Some b) is = ap Some (tells.true_is a b is)

option_self : {A : Type 0} (same : A → A → Bool) → Tells same → (a : Option A) → same_option same a a ≡ true
option_self same tells None = refl
option_self same tells (Some a) = tells.self a

pub options_tell : {A : Type 0} (same : A → A → Bool) → Tells same → Tells (same_option same)
options_tell same tells = record { true_is = option_true same tells; self = option_self same tells }

line_true : (a b : Option (List ℕ) × ℕ) → same_line a b ≡ true → a ≡ b
line_true a b is =
    let p : a.0 ≡ b.0 = option_true bytes_eq bytes_tell a.0 b.0 (and_left _ _ is) in
    let q : a.1 ≡ b.1 = numbers a.1 b.1 (and_right _ _ is) in
    ap (λ (o : Option (List ℕ)). (o, a.1)) p ∙ ap (λ (n : ℕ). (b.0, n)) q

line_self : (a : Option (List ℕ) × ℕ) → same_line a a ≡ true
line_self a = and_both _ _ (option_self bytes_eq bytes_tell a.0) (number_self a.1)

pub lines_tell : Tells same_line
lines_tell = record { true_is = line_true; self = line_self }
