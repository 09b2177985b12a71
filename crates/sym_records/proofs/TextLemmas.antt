-- Words, names and numbers in a line.
use Rattle.std.proofs.Common.{◌≡◌, ℕ, ◌+◌, ◌-◌, ◌*◌, ◌^◌, ◌<◌, ◌==◌, cond, true, false, List, [], ◌∷◌, ◌++◌, length, get_or, Some, None, Ok, nat_lt, refl, ◌∙◌, ap, arith, subst}
use Rattle.std.specs.List.{list_all}
use Rattle.std.specs.Option.{option_and_then}
use Rattle.std.specs.Char.{digit_value}
use Rattle.std.specs.Str.Parse.{AllDigits, digits_value_after}
use Rattle.std.proofs.lemmas.Bool.{lt-ltb, le-ltb, ltb-true, eqb-true}
use Rattle.std.proofs.lemmas.Fmt.{digits_is_IsNumeral}
use Rattle.sym_rules.proofs.BoolLemmas.{and_true, both, not_false, not_true, elim_bool, no_bytes}
use Rattle.sym_rules.proofs.DigitsLemmas.{length_hex}
use Rattle.sym_records.specs.FieldReading.{name_at, name_of, hex_digit, hex_onto, hex_value}
use Rattle.sym_records.specs.Fields.{hex, is_field, is_name}
use Rattle.sym_rules.specs.Cuts.{is_space, is_within_line, is_within_field, skip}

not_space : (x : ℕ) → is_within_field x ≡ true → (x == 32) ≡ false
not_space x is = not_true (and_true is).0

pub skip_field : (x : ℕ) (rest : List ℕ) → (x == 32) ≡ false → skip is_space (x ∷ rest) ≡ x ∷ rest
unfolding skip
skip_field x rest is = ap (λ t. cond t (skip is_space rest) (x ∷ rest)) is

pub skip_all : (w rest : List ℕ) → is_field w ≡ true → skip is_space (w ++ rest) ≡ w ++ rest
unfolding is_field
skip_all [] rest is = cc
skip_all (x ∷ w) rest is = skip_field x (w ++ rest) (not_space x (and_true (and_true is).1).0)

pub skip_one : (rest : List ℕ) → skip is_space (32 ∷ rest) ≡ skip is_space rest
unfolding skip
skip_one rest = refl

-- Facts about a name.
pub record NameParts (name : List ℕ) : Type 0 where
  pub some : 0 < length name
  pub begins : (get_or name 0 0 == 32) ≡ false
  pub ends : (get_or name (length name - 1) 0 == 13) ≡ false
  pub one_line : list_all is_within_line name ≡ true

pub name_parts : (name : List ℕ) → is_name name ≡ true → NameParts name
unfolding is_name
name_parts name is = record {
  some = no_bytes name (and_true (and_true (and_true is).0).0).0;
  begins = not_true (and_true (and_true (and_true is).0).0).1;
  ends = not_true (and_true (and_true is).0).1;
  one_line = (and_true is).1;
}

-- A name is read from its spelling.
pub name_is : (name : List ℕ) → NameParts name → name_at (32 ∷ name) ≡ Ok name
unfolding name_at
name_is [] parts = absurd (omega (arith, parts.some))
name_is (x ∷ name) parts = ap name_of (skip_one (x ∷ name) ∙ skip_field x name parts.begins)

no_space : digit_value 32 < 16 → ⊥
no_space h = omega (arith, h)

no_end : digit_value 10 < 16 → ⊥
no_end h = omega (arith, h)

pub wide : (n : ℕ) → n < 2 ^ 64 → n < 16 ^ 64
wide n small = omega arith

digit_is : (d : ℕ) → digit_value d < 16 → hex_digit d ≡ Some (digit_value d)
unfolding hex_digit
digit_is d below = ap (λ t. cond t (Some (digit_value d)) None) (lt-ltb (digit_value d) 16 below)

hex_onto_is : (n : ℕ) (ds : List ℕ) → AllDigits 16 ds → hex_onto n ds ≡ Some (digits_value_after 16 n ds)
unfolding hex_onto
hex_onto_is n [] all = refl
hex_onto_is n (d ∷ ds) all = ap (option_and_then (λ v. hex_onto (n * 16 + v) ds)) (digit_is d all.0) ∙ hex_onto_is (n * 16 + digit_value d) ds all.1

-- The value of a number's digits is the number.
pub hex_value_is : (n : ℕ) → n < 2 ^ 64 → hex_value (hex n) ≡ Some n
unfolding hex_value
hex_value_is n small =
    let numeral = digits_is_IsNumeral 16 false (omega arith) (omega arith) n (wide n small) in
    ap (λ t. cond t None (hex_onto 0 (hex n))) (le-ltb 16 (length (hex n)) (length_hex n small))
    ∙ hex_onto_is 0 (hex n) numeral.0.1 ∙ ap Some numeral.1

digit_within : (d : ℕ) → digit_value d < 16 → is_within_field d ≡ true
digit_within d below = both
    (not_false (elim_bool (d == 32) (λ t. t ≡ false) (λ is. absurd (no_space (subst (λ (x : ℕ). digit_value x < 16) (eqb-true d 32 is) below))) (λ _. refl)))
    (not_false (elim_bool (d == 10) (λ t. t ≡ false) (λ is. absurd (no_end (subst (λ (x : ℕ). digit_value x < 16) (eqb-true d 10 is) below))) (λ _. refl)))

pub digits_within : (ds : List ℕ) → AllDigits 16 ds → list_all is_within_field ds ≡ true
digits_within [] all = refl
digits_within (d ∷ ds) all = both (digit_within d all.0) (digits_within ds all.1)

pub hex_field : (n : ℕ) → n < 2 ^ 64 → is_field (hex n) ≡ true
unfolding is_field
hex_field n small =
    let numeral = digits_is_IsNumeral 16 false (omega arith) (omega arith) n (wide n small) in
    both (lt-ltb 0 (length (hex n)) numeral.0.0) (digits_within (hex n) numeral.0.1)

pub below : {n : ℕ} → nat_lt n (2 ^ 64) ≡ true → n < 2 ^ 64
below {n = n} is = ltb-true n (2 ^ 64) is
