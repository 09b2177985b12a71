-- The numbers of v0 names.
use Rattle.std.proofs.Common.{◌≡◌, ◌≢◌, ℕ, ◌+◌, ◌<◌, ◌≤◌, ◌==◌, Bool, true, false, List, [], ◌∷◌, ◌++◌, length, take, drop, get_or, Option, Some, None, refl, sym, ◌∙◌, ap, arith, append_assoc}
use Rattle.std.specs.Option.{option_map, option_and_then}
use Rattle.std.proofs.lemmas.Bool.Decides.{nat_tests}
use Rattle.std.specs.List.{list_all}
use Rattle.std.proofs.lemmas.Bool.{eqb-true}
use Rattle.std.proofs.lemmas.List.{at_drop_more, at_drop_all, take_more, append-nil, take-append-drop}
use Rattle.sym_rules.proofs.BoolLemmas.{and_true}
use Rattle.rust_names.specs.V0Numbers.{front, base_62_digit, below_64, next_62, base_62_from, hex_digit, with_digit, hex_digits, next_hex, hex_from}

pub front_none : (bytes : List ℕ) → length bytes ≡ 0 → None ≡ front bytes
unfolding front
front_none [] none = refl
front_none (b ∷ bytes) none = absurd (omega arith)

pub front_some : (bytes : List ℕ) → length bytes ≢ 0 → Some (get_or bytes 0 0, drop 1 bytes) ≡ front bytes
unfolding front
front_some [] some = absurd (some refl)
front_some (b ∷ bytes) some = refl

pub some_is : {A : Type 0} {x y : A} → ◌≡◌ {A = Option A} (Some x) (Some y) → x ≡ y
some_is is = cc

pub front_is : (b : ℕ) (after bytes : List ℕ) → Some (b, after) ≡ front bytes → bytes ≡ b ∷ after
unfolding front
front_is b after [] is = cc
front_is b after (c ∷ bytes) is = ap (λ (x : ℕ × List ℕ). x.0 ∷ x.1) (sym (some_is is))

pub front_end : (bytes : List ℕ) → None ≡ front bytes → bytes ≡ []
unfolding front
front_end [] is = refl
front_end (c ∷ bytes) is = cc

same : (a b : ℕ) → a ≡ b → (a == b) ≡ true
same a b is = grind (arith, nat_tests)

other : (a b : ℕ) → a ≢ b → (a == b) ≡ false
other a b isnt = grind (arith, nat_tests)

-- Digits of base 62.

abbrev pub base_by : ℕ → ℕ → List ℕ → Bool → Option (ℕ × List ℕ)
base_by value b bytes t = elim t [
  | true ↦ option_map (λ n. (n, bytes)) (below_64 (value + 1))
  | false ↦ option_and_then (λ more. base_62_from more bytes) (next_62 value (base_62_digit b))
]

base_is : (value b : ℕ) (bytes : List ℕ) → base_62_from value (b ∷ bytes) ≡ base_by value b bytes (b == 95)
unfolding base_62_from
base_is value b bytes = refl

base_at : (bytes : List ℕ) (i value : ℕ) → i < length bytes → base_62_from value (drop i bytes) ≡ base_by value (get_or bytes i 0) (drop (i + 1) bytes) (get_or bytes i 0 == 95)
base_at bytes i value within = at_drop_more (base_62_from value) bytes i 0 within ∙ base_is value (get_or bytes i 0) (drop (i + 1) bytes)

pub base_stop : (bytes after : List ℕ) (i value : ℕ) (n : Option ℕ) → i < length bytes → get_or bytes i 0 ≡ 95 → after ≡ drop (i + 1) bytes → n ≡ below_64 (value + 1) → base_62_from value (drop i bytes) ≡ option_map (λ k. (k, after)) n
base_stop bytes after i value n within is rest number =
    base_at bytes i value within ∙ ap (base_by value (get_or bytes i 0) (drop (i + 1) bytes)) (same (get_or bytes i 0) 95 is)
    ∙ ap (option_map (λ k. (k, drop (i + 1) bytes))) (sym number) ∙ ap (λ (xs : List ℕ). option_map (λ k. (k, xs)) n) (sym rest)

pub base_next : (bytes : List ℕ) (i value : ℕ) (n : Option ℕ) → i < length bytes → get_or bytes i 0 ≢ 95 → n ≡ next_62 value (base_62_digit (get_or bytes i 0)) → base_62_from value (drop i bytes) ≡ option_and_then (λ more. base_62_from more (drop (i + 1) bytes)) n
base_next bytes i value n within isnt number =
    base_at bytes i value within ∙ ap (base_by value (get_or bytes i 0) (drop (i + 1) bytes)) (other (get_or bytes i 0) 95 isnt) ∙ sym (ap (option_and_then (λ more. base_62_from more (drop (i + 1) bytes))) number)

base_over : (value : ℕ) → base_62_from value [] ≡ None
unfolding base_62_from
base_over value = refl

pub base_end : (bytes : List ℕ) (i value : ℕ) → length bytes ≤ i → base_62_from value (drop i bytes) ≡ None
base_end bytes i value past = at_drop_all (base_62_from value) bytes i past ∙ base_over value

-- Leading zeros.

zero_first : (bytes : List ℕ) → base_62_from 0 (48 ∷ bytes) ≡ base_62_from 0 bytes
unfolding base_62_from
zero_first bytes = refl

zeros_before : (zeros bytes : List ℕ) → list_all (λ b. b == 48) zeros ≡ true → base_62_from 0 (zeros ++ bytes) ≡ base_62_from 0 bytes
zeros_before [] bytes all = refl
zeros_before (b ∷ zeros) bytes all =
    ap (λ c. base_62_from 0 (c ∷ (zeros ++ bytes))) (eqb-true b 48 (and_true all).0) ∙ zero_first (zeros ++ bytes) ∙ zeros_before zeros bytes (and_true all).1

pub zeros_front : (bytes block after : List ℕ) (n : ℕ) → block ≡ take n bytes → after ≡ drop n bytes → list_all (λ b. b == 48) block ≡ true → base_62_from 0 after ≡ base_62_from 0 bytes
zeros_front bytes block after n front back all =
    ap (base_62_from 0) back ∙ sym (zeros_before (take n bytes) (drop n bytes) (ap (list_all (λ b. b == 48)) (sym front) ∙ all)) ∙ ap (base_62_from 0) (take-append-drop n bytes)

-- Hexadecimal digits.

abbrev pub after_digits : List ℕ → Option (List ℕ × List ℕ) → Option (List ℕ × List ℕ)
after_digits digits found = option_map (λ x. (digits ++ x.0, x.1)) found

abbrev pub hex_by : ℕ → List ℕ → Bool → Option (List ℕ × List ℕ)
hex_by b bytes t = elim t [
  | true ↦ Some ([], bytes)
  | false ↦ with_digit b (hex_digit b) (hex_digits bytes)
]

hex_is : (b : ℕ) (bytes : List ℕ) → hex_digits (b ∷ bytes) ≡ hex_by b bytes (b == 95)
unfolding hex_digits
hex_is b bytes = refl

pub hex_at : (bytes : List ℕ) (i : ℕ) → i < length bytes → hex_digits (drop i bytes) ≡ hex_by (get_or bytes i 0) (drop (i + 1) bytes) (get_or bytes i 0 == 95)
hex_at bytes i within = at_drop_more hex_digits bytes i 0 within ∙ hex_is (get_or bytes i 0) (drop (i + 1) bytes)

pub hex_stop : (bytes : List ℕ) (i : ℕ) → i < length bytes → get_or bytes i 0 ≡ 95 → hex_digits bytes ≡ after_digits (take i bytes) (hex_digits (drop i bytes)) → Some (take i bytes, drop (i + 1) bytes) ≡ hex_digits bytes
hex_stop bytes i within is so_far =
    let found : hex_digits (drop i bytes) ≡ Some ([], drop (i + 1) bytes) = hex_at bytes i within ∙ ap (hex_by (get_or bytes i 0) (drop (i + 1) bytes)) (same (get_or bytes i 0) 95 is) in
    ap (λ xs. Some (xs, drop (i + 1) bytes)) (sym (append-nil (take i bytes))) ∙ sym (so_far ∙ ap (after_digits (take i bytes)) found)

pub hex_none : (bytes : List ℕ) (i : ℕ) → i < length bytes → get_or bytes i 0 ≢ 95 → None ≡ hex_digit (get_or bytes i 0) → hex_digits bytes ≡ after_digits (take i bytes) (hex_digits (drop i bytes)) → None ≡ hex_digits bytes
hex_none bytes i within isnt none so_far =
    let found : hex_digits (drop i bytes) ≡ None =
    hex_at bytes i within ∙ ap (hex_by (get_or bytes i 0) (drop (i + 1) bytes)) (other (get_or bytes i 0) 95 isnt)
    ∙ ap (λ o. with_digit (get_or bytes i 0) o (hex_digits (drop (i + 1) bytes))) (sym none) in
    sym (so_far ∙ ap (after_digits (take i bytes)) found)

longer : (front : List ℕ) (b : ℕ) (o : Option (List ℕ × List ℕ)) → after_digits front (option_map (λ x. (b ∷ x.0, x.1)) o) ≡ after_digits (front ++ b ∷ []) o
longer front b None = refl
longer front b (Some x) = ap (λ xs. Some (xs, x.1)) (sym (append_assoc front (b ∷ []) x.0))

pub hex_more : (bytes : List ℕ) (i v : ℕ) → i < length bytes → get_or bytes i 0 ≢ 95 → Some v ≡ hex_digit (get_or bytes i 0) → hex_digits bytes ≡ after_digits (take i bytes) (hex_digits (drop i bytes)) → hex_digits bytes ≡ after_digits (take (i + 1) bytes) (hex_digits (drop (i + 1) bytes))
hex_more bytes i v within isnt some so_far =
    let b = get_or bytes i 0 in
    let later = hex_digits (drop (i + 1) bytes) in
    let found : hex_digits (drop i bytes) ≡ option_map (λ x. (b ∷ x.0, x.1)) later =
    hex_at bytes i within ∙ ap (hex_by b (drop (i + 1) bytes)) (other b 95 isnt) ∙ ap (λ o. with_digit b o later) (sym some) in
    so_far ∙ ap (after_digits (take i bytes)) found ∙ longer (take i bytes) b later ∙ ap (λ xs. after_digits xs later) (sym (take_more bytes i 0 within))

hex_over : hex_digits [] ≡ None
unfolding hex_digits
hex_over = refl

pub hex_end : (bytes : List ℕ) (i : ℕ) → length bytes ≤ i → hex_digits bytes ≡ after_digits (take i bytes) (hex_digits (drop i bytes)) → None ≡ hex_digits bytes
hex_end bytes i past so_far = sym (so_far ∙ ap (after_digits (take i bytes)) (at_drop_all hex_digits bytes i past ∙ hex_over))

-- The value of hexadecimal digits.

value_is : (value b : ℕ) (digits : List ℕ) → hex_from value (b ∷ digits) ≡ option_and_then (λ more. hex_from more digits) (next_hex value (hex_digit b))
unfolding hex_from
value_is value b digits = refl

pub value_next : (digits : List ℕ) (i value : ℕ) (n : Option ℕ) → i < length digits → n ≡ next_hex value (hex_digit (get_or digits i 0)) → hex_from value (drop i digits) ≡ option_and_then (λ more. hex_from more (drop (i + 1) digits)) n
value_next digits i value n within is = at_drop_more (hex_from value) digits i 0 within ∙ value_is value (get_or digits i 0) (drop (i + 1) digits) ∙ sym (ap (option_and_then (λ more. hex_from more (drop (i + 1) digits))) is)

value_over : (value : ℕ) → hex_from value [] ≡ Some value
unfolding hex_from
value_over value = refl

pub value_end : (digits : List ℕ) (i value : ℕ) → length digits ≤ i → hex_from value (drop i digits) ≡ Some value
value_end digits i value past = at_drop_all (hex_from value) digits i past ∙ value_over value
