-- The length at the start of a part, for `count_digits`, `number_upto` and `cut_of`.
use Rattle.std.proofs.Common.{◌≡◌, ◌≢◌, ℕ, ◌+◌, ◌-◌, ◌*◌, ◌<◌, ◌≤◌, ◌==◌, ◌&&◌, cond, zero, suc, true, false, not, List, [], ◌∷◌, length, take, drop, get_or, Option, Some, None, nat_lt, nat_le, refl, sym, ◌∙◌, ap, arith}
use Rattle.std.specs.List.{list_all}
use Rattle.std.specs.Char.{digit_value}
use Rattle.std.specs.Str.Parse.{digits_value}
use Rattle.std.proofs.lemmas.Bool.{le-leb, lt-leb, leb-true}
use Rattle.std.proofs.lemmas.Bool.Decides.{nat_tests}
use Rattle.std.proofs.lemmas.Int.Digits.{digits_value_more}
use Rattle.std.proofs.lemmas.Str.Parse.{digits_value-take-le}
use Rattle.std.proofs.lemmas.List.{at_drop_more, at_drop_all, take_all}
use Rattle.sym_rules.proofs.BoolLemmas.{and_true, both, not_false, elim_bool}
use Rattle.rust_names.proofs.FrontLemmas.{every_more}
use Rattle.rust_names.specs.Legacy.{is_digit, is_number}
use Rattle.rust_names.specs.internal.Reading.{digits_in_front, number_upto, cut_by, cut_of}

pub no_digits : (b : ℕ) (bytes : List ℕ) → is_digit b ≡ false → length (digits_in_front (b ∷ bytes)) ≡ 0
unfolding digits_in_front
no_digits b bytes none = ap (λ t. length (cond t (b ∷ digits_in_front bytes) [])) none

pub one_digit : (b : ℕ) (bytes : List ℕ) → is_digit b ≡ true → length (digits_in_front (b ∷ bytes)) ≡ suc (length (digits_in_front bytes))
unfolding digits_in_front
one_digit b bytes is = ap (λ t. length (cond t (b ∷ digits_in_front bytes) [])) is

at_end : length (digits_in_front []) ≡ 0
unfolding digits_in_front
at_end = refl

pub digits_stop : (bytes : List ℕ) (i count : ℕ) → i < length bytes → is_digit (get_or bytes i 0) ≡ false → count ≡ i + length (digits_in_front (drop i bytes)) → i ≡ count
digits_stop bytes i count within none is = omega (arith, is, at_drop_more (λ xs. length (digits_in_front xs)) bytes i 0 within, no_digits (get_or bytes i 0) (drop (i + 1) bytes) none)

pub digits_more : (bytes : List ℕ) (i count : ℕ) → i < length bytes → is_digit (get_or bytes i 0) ≡ true → count ≡ i + length (digits_in_front (drop i bytes)) → count ≡ i + 1 + length (digits_in_front (drop (i + 1) bytes))
digits_more bytes i count within digit is = omega (arith, is, at_drop_more (λ xs. length (digits_in_front xs)) bytes i 0 within, one_digit (get_or bytes i 0) (drop (i + 1) bytes) digit)

pub digits_end : (bytes : List ℕ) (i count : ℕ) → length bytes ≤ i → i ≤ length bytes → count ≡ i + length (digits_in_front (drop i bytes)) → length bytes ≡ count
digits_end bytes i count past within is = omega (arith, is, ap (λ xs. length (digits_in_front xs)) (at_drop_all (λ xs. xs) bytes i past), at_end)

-- The number that digits write.

is_none : (most : ℕ) (digits : List ℕ) → is_number digits ≡ false → number_upto most digits ≡ None
unfolding number_upto
is_none most digits none = ap (λ t. cond (t && nat_le (digits_value 10 digits) most) (Some (digits_value 10 digits)) None) none

pub number_none : (most : ℕ) (digits : List ℕ) → length digits ≡ 0 → None ≡ number_upto most digits
number_none most [] none = sym (is_none most [] refl)
number_none most (d ∷ digits) none = absurd (omega arith)

pub number_zero : (most : ℕ) (digits : List ℕ) → length digits ≢ 0 → get_or digits 0 0 ≡ 48 → None ≡ number_upto most digits
number_zero most [] some is = absurd (some refl)
number_zero most (d ∷ digits) some is = sym (is_none most (d ∷ digits) (ap (λ t. not t && list_all is_digit (d ∷ digits)) (let same : (d == 48) ≡ true = grind (arith, nat_tests) in same)))

not_all : (digits : List ℕ) (i : ℕ) → i < length digits → is_digit (get_or digits i 0) ≡ false → list_all is_digit digits ≡ false
not_all [] i within other = absurd (omega arith)
not_all (d ∷ digits) zero within other = ap (λ t. t && list_all is_digit digits) other
not_all (d ∷ digits) (suc i) within other = elim_bool (is_digit d) (λ t. (t && list_all is_digit digits) ≡ false) (λ _. not_all digits i (omega arith) other) (λ _. refl)

none_all : (digits : List ℕ) → list_all is_digit digits ≡ false → is_number digits ≡ false
none_all [] none = refl
none_all (d ∷ digits) none = elim_bool (d == 48) (λ t. (not t && list_all is_digit (d ∷ digits)) ≡ false) (λ _. refl) (λ _. none)

pub number_other : (most i : ℕ) (digits : List ℕ) → i < length digits → is_digit (get_or digits i 0) ≡ false → None ≡ number_upto most digits
number_other most i digits within other = sym (is_none most digits (none_all digits (not_all digits i within other)))

too_great : (most : ℕ) (digits : List ℕ) → most < digits_value 10 digits → number_upto most digits ≡ None
unfolding number_upto
too_great most digits great = ap (λ t. cond (is_number digits && t) (Some (digits_value 10 digits)) None) (lt-leb (digits_value 10 digits) most great) ∙ elim_bool (is_number digits) (λ t. cond (t && false) (Some (digits_value 10 digits)) None ≡ None) (λ _. refl) (λ _. refl)

pub number_past : (most i n : ℕ) (digits : List ℕ) → n ≡ digits_value 10 (take i digits) → most < n → None ≡ number_upto most digits
number_past most i n digits is great = sym (too_great most digits (omega (arith, digits_value-take-le 10 digits i (omega arith))))

pub digit_is : (d : ℕ) → is_digit d ≡ true → digit_value d ≡ d - 48
digit_is d is =
    let low : nat_lt d 48 ≡ false = grind (arith, nat_tests) in
    let high : nat_lt d 58 ≡ true = grind (arith, nat_tests) in
    let later : ℕ = cond (nat_lt d 65) 36 (cond (nat_lt d 91) (d - 55) (cond (nat_lt d 97) 36 (cond (nat_lt d 123) (d - 87) 36))) in
    ap (λ t. cond t 36 (cond (nat_lt d 58) (d - 48) later)) low ∙ ap (λ t. cond t (d - 48) later) high

pub number_more : (i n : ℕ) (digits : List ℕ) → i < length digits → is_digit (get_or digits i 0) ≡ true → n ≡ digits_value 10 (take i digits) → n * 10 + (get_or digits i 0 - 48) ≡ digits_value 10 (take (i + 1) digits)
number_more i n digits within digit is = omega (arith, is, digits_value_more 10 digits i within, digit_is (get_or digits i 0) digit)

pub all_more : (digits : List ℕ) (i : ℕ) → i < length digits → list_all is_digit (take i digits) ≡ true → is_digit (get_or digits i 0) ≡ true → list_all is_digit (take (i + 1) digits) ≡ true
all_more = every_more is_digit

pub first_some : (digits : List ℕ) → list_all is_digit digits ≡ true → length digits ≢ 0 → get_or digits 0 0 ≢ 48 → is_number digits ≡ true
first_some [] all some first = absurd (some refl)
first_some (d ∷ digits) all some first = let other : (d == 48) ≡ false = grind (arith, nat_tests) in both (not_false other) all

pub number_by : (most : ℕ) (digits : List ℕ) → is_number digits ≡ true → digits_value 10 digits ≤ most → number_upto most digits ≡ Some (digits_value 10 digits)
unfolding number_upto
number_by most digits is within = ap (λ t. cond t (Some (digits_value 10 digits)) None) (both is (le-leb (digits_value 10 digits) most within))

pub number_is : (most n i : ℕ) (digits : List ℕ) → length digits ≤ i → n ≡ digits_value 10 (take i digits) → list_all is_digit (take i digits) ≡ true → length digits ≢ 0 → get_or digits 0 0 ≢ 48 → n ≤ most → Some n ≡ number_upto most digits
number_is most n i digits past is all some first within =
    let whole : take i digits ≡ digits = take_all i digits past in
    let value : n ≡ digits_value 10 digits = is ∙ ap (digits_value 10) whole in
    ap Some value ∙ sym (number_by most digits (first_some digits (ap (list_all is_digit) (sym whole) ∙ all) some first) (omega (arith, value)))

-- The part at the start of the bytes.

-- The digits at the start of the bytes are a prefix.
pub front_digits : (bytes : List ℕ) → take (length (digits_in_front bytes)) bytes ≡ digits_in_front bytes
unfolding digits_in_front
front_digits [] = refl
front_digits (b ∷ bytes) = elim_bool (is_digit b) (λ t. take (length (cond t (b ∷ digits_in_front bytes) [])) (b ∷ bytes) ≡ cond t (b ∷ digits_in_front bytes) []) (λ _. ap (λ xs. b ∷ xs) (front_digits bytes)) (λ _. refl)

pub cut_at : (bytes : List ℕ) (n : ℕ) → n ≡ length (digits_in_front bytes) → cut_of bytes ≡ cut_by (drop n bytes) (number_upto (length (drop n bytes)) (take n bytes))
unfolding cut_of
cut_at bytes n is =
    ap (λ ds. cut_by (drop (length (digits_in_front bytes)) bytes) (number_upto (length (drop (length (digits_in_front bytes)) bytes)) ds)) (sym (front_digits bytes))
    ∙ ap (λ k. cut_by (drop k bytes) (number_upto (length (drop k bytes)) (take k bytes))) (sym is)

pub cut_none : (bytes : List ℕ) (n : ℕ) → n ≡ length (digits_in_front bytes) → None ≡ number_upto (length (drop n bytes)) (take n bytes) → None ≡ cut_of bytes
cut_none bytes n is none = sym (cut_at bytes n is ∙ ap (cut_by (drop n bytes)) (sym none))

pub cut_some : (bytes : List ℕ) (n size : ℕ) → n ≡ length (digits_in_front bytes) → Some size ≡ number_upto (length (drop n bytes)) (take n bytes) → Some (take size (drop n bytes), drop size (drop n bytes)) ≡ cut_of bytes
cut_some bytes n size is some = sym (cut_at bytes n is ∙ ap (cut_by (drop n bytes)) (sym some))

pub some_is : {A : Type 0} {x y : A} → ◌≡◌ {A = Option A} (Some x) (Some y) → x ≡ y
some_is is = cc

-- What is known of a number that was read.
pub number_known : (most n : ℕ) (digits : List ℕ) → number_upto most digits ≡ Some n → (is_number digits ≡ true) × (digits_value 10 digits ≡ n) × (n ≤ most)
unfolding number_upto
number_known most n digits is =
    elim_bool (is_number digits && nat_le (digits_value 10 digits) most) (λ t. (is_number digits && nat_le (digits_value 10 digits) most) ≡ t → cond t (Some (digits_value 10 digits)) None ≡ Some n → (is_number digits ≡ true) × (digits_value 10 digits ≡ n) × (n ≤ most))
    (λ whole _ found.
    let parts = and_true {a = is_number digits} {b = nat_le (digits_value 10 digits) most} whole in
    let same : digits_value 10 digits ≡ n = some_is found in
    (parts.0, same, omega (arith, same, leb-true (digits_value 10 digits) most parts.1)))
    (λ _ _ found. cc) refl is
