-- The length at the start of an identifier, and its bytes, for `short_length`, `any_length` and
-- `are_identifier_bytes`.
use Rattle.std.proofs.Common.{◌≡◌, ℕ, ◌-◌, ◌≤◌, ◌==◌, suc, cond, true, false, List, [], ◌∷◌, length, take, drop, get_or, Option, Some, None, refl, sym, ◌∙◌, ap, arith, ◌+◌, ◌<◌, ◌&&◌, Bool, zero}
use Rattle.std.specs.List.{list_all}
use Rattle.std.specs.Option.{option_map}
use Rattle.std.proofs.lemmas.List.{take_all}
use Rattle.sym_rules.proofs.BoolLemmas.{elim_bool}
use Rattle.rust_names.proofs.FrontLemmas.{every_more}
use Rattle.rust_names.specs.Digits.{digits_in_front, number_upto}
use Rattle.std.specs.Str.Parse.{digits_value}
use Rattle.std.proofs.lemmas.Bool.Decides.{nat_tests}
use Rattle.rust_names.specs.Legacy.{is_digit, is_number}
use Rattle.rust_names.specs.V0Numbers.{front, eat}
use Rattle.rust_names.specs.V0Identifiers.{is_identifier_byte, length_by, length_in_front}
use Rattle.rust_names.proofs.DigitLemmas.{front_digits, one_digit, no_digits, number_more, number_by}

length_at : (bytes : List ℕ) (n : ℕ) → None ≡ eat 48 bytes → n ≡ length (digits_in_front bytes) → length_in_front bytes ≡ option_map (λ k. (k, drop n bytes)) (number_upto (length bytes) (take n bytes))
unfolding length_in_front
length_at bytes n none is =
    ap (length_by bytes) (sym none)
    ∙ ap (λ ds. option_map (λ k. (k, drop (length (digits_in_front bytes)) bytes)) (number_upto (length bytes) ds)) (sym (front_digits bytes))
    ∙ ap (λ m. option_map (λ k. (k, drop m bytes)) (number_upto (length bytes) (take m bytes))) (sym is)

pub length_found : (bytes digits after : List ℕ) (n : ℕ) (found : Option ℕ) → None ≡ eat 48 bytes → n ≡ length (digits_in_front bytes) → digits ≡ take n bytes → after ≡ drop n bytes → found ≡ number_upto (length bytes) digits → option_map (λ k. (k, after)) found ≡ length_in_front bytes
length_found bytes digits after n found none is front back number =
    ap (λ o. option_map (λ k. (k, after)) o) (number ∙ ap (number_upto (length bytes)) front) ∙ ap (λ xs. option_map (λ k. (k, xs)) (number_upto (length bytes) (take n bytes))) back ∙ sym (length_at bytes n none is)

-- A length of one digit.

no_zero : (a : ℕ) (bytes : List ℕ) → 49 ≤ a → None ≡ eat 48 (a ∷ bytes)
unfolding eat front
no_zero a bytes some = let other : (a == 48) ≡ false = grind (arith, nat_tests) in ap (λ t. cond t (Some bytes) None) (sym other)

is_one : (a : ℕ) → 49 ≤ a → a ≤ 57 → is_digit a ≡ true
is_one a low high = grind (arith, nat_tests)

one_value : (a : ℕ) → is_digit a ≡ true → a - 48 ≡ digits_value 10 (a ∷ [])
one_value a is = omega (arith, number_more 0 0 (a ∷ []) (omega arith) is refl)

pub one_digit_length : (bytes : List ℕ) (n : ℕ) → 2 ≤ length bytes → 49 ≤ get_or bytes 0 0 → get_or bytes 0 0 ≤ 57 → is_digit (get_or bytes 1 0) ≡ false → n ≡ get_or bytes 0 0 - 48 → n ≤ length bytes → Some (n, drop 1 bytes) ≡ length_in_front bytes
one_digit_length [] n some low high other is within = absurd (omega (arith, some))
one_digit_length (a ∷ []) n some low high other is within = absurd (omega (arith, some))
one_digit_length (a ∷ b ∷ bytes) n some low high other is within =
    let digit = is_one a low high in
    let value : n ≡ digits_value 10 (a ∷ []) = is ∙ one_value a digit in
    length_found (a ∷ b ∷ bytes) (a ∷ []) (b ∷ bytes) 1 (Some n) (no_zero a (b ∷ bytes) low)
    (sym (one_digit a (b ∷ bytes) digit ∙ ap suc (no_digits b bytes other))) refl refl
    (ap Some value ∙ sym (number_by (length (a ∷ b ∷ bytes)) (a ∷ []) (let e : is_number (a ∷ []) ≡ true = grind (arith, nat_tests) in e) (omega (arith, value, within))))

-- The bytes of an identifier.

other_by : (p : ℕ → Bool) (bytes : List ℕ) (i : ℕ) → i < length bytes → p (get_or bytes i 0) ≡ false → list_all p bytes ≡ false
other_by p [] i within other = absurd (omega arith)
other_by p (b ∷ bytes) zero within other = ap (λ t. t && list_all p bytes) other
other_by p (b ∷ bytes) (suc i) within other = elim_bool (p b) (λ t. (t && list_all p bytes) ≡ false) (λ _. other_by p bytes i (omega arith) other) (λ _. refl)

pub letters_more : (bytes : List ℕ) (i : ℕ) → i < length bytes → list_all is_identifier_byte (take i bytes) ≡ true → is_identifier_byte (get_or bytes i 0) ≡ true → list_all is_identifier_byte (take (i + 1) bytes) ≡ true
letters_more = every_more is_identifier_byte

pub letters_stop : (bytes : List ℕ) (i : ℕ) → i < length bytes → is_identifier_byte (get_or bytes i 0) ≡ false → false ≡ list_all is_identifier_byte bytes
letters_stop bytes i within other = sym (other_by is_identifier_byte bytes i within other)

pub letters_end : (bytes : List ℕ) (i : ℕ) → length bytes ≤ i → list_all is_identifier_byte (take i bytes) ≡ true → true ≡ list_all is_identifier_byte bytes
letters_end bytes i past all = sym (ap (list_all is_identifier_byte) (sym (take_all i bytes past)) ∙ all)
