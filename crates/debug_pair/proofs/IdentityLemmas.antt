-- Bytes in hexadecimal: each is two digits.
use Rattle.std.proofs.Common.{◌≡◌, ℕ, zero, suc, ◌*◌, ◌/◌, ◌%◌, ◌<◌, List, [], ◌∷◌, ◌++◌, length, get_or, codes, refl, sym, ◌∙◌, ap, arith, subst}
use Rattle.std.specs.Char.{digit_value}
use Rattle.std.specs.Str.Parse.{AllDigits}
use Rattle.hex.specs.Hex.{encode_upper, encode_with}

upper_digits : AllDigits 16 (codes "0123456789ABCDEF")
upper_digits = (omega arith, (omega arith, (omega arith, (omega arith, (omega arith, (omega arith, (omega arith, (omega arith, (omega arith, (omega arith, (omega arith, (omega arith, (omega arith, (omega arith, (omega arith, (omega arith, tt))))))))))))))))

digit_at : (text : List ℕ) (d : ℕ) → AllDigits 16 text → d < length text → digit_value (get_or text d 0) < 16
digit_at [] d all below = absurd (omega (arith, below))
digit_at (c ∷ text) zero all below = all.0
digit_at (c ∷ text) (suc d) all below = digit_at text d all.1 (omega (arith, below))

upper_digit : (d : ℕ) → d < 16 → digit_value (get_or (codes "0123456789ABCDEF") d 0) < 16
upper_digit d below = digit_at (codes "0123456789ABCDEF") d upper_digits (omega (arith, below))

-- The hexadecimal digits of bytes are digits.
upper_all : (bytes : List ℕ) → ((i : ℕ) → get_or bytes i 0 < 256) → AllDigits 16 (encode_upper bytes)
unfolding encode_with
upper_all [] fits = tt
upper_all (b ∷ bytes) fits =
    let byte = fits 0 in
    (upper_digit (b / 16) (omega arith), (upper_digit (b % 16) (omega arith), upper_all bytes (λ i. fits (suc i))))

-- There are two digits for each byte.
upper_length : (bytes : List ℕ) → length (encode_upper bytes) ≡ 2 * length bytes
unfolding encode_with
upper_length [] = refl
upper_length (b ∷ bytes) = omega (arith, upper_length bytes)

all_append : (xs ys : List ℕ) → AllDigits 16 xs → AllDigits 16 ys → AllDigits 16 (xs ++ ys)
all_append [] ys first second = second
all_append (x ∷ xs) ys first second = (first.0, all_append xs ys first.1 second)

-- The age is one more digit.
pub age_digit : (old new : List ℕ) → new ≡ old ++ 48 ∷ [] → AllDigits 16 old → AllDigits 16 new
age_digit old new is all = subst (AllDigits 16) (sym is) (all_append old (48 ∷ []) all (omega arith, tt))

pub text_digits : (bytes text : List ℕ) → text ≡ encode_upper bytes → ((i : ℕ) → get_or bytes i 0 < 256) → AllDigits 16 text
text_digits bytes text is fits = subst (AllDigits 16) (sym is) (upper_all bytes fits)

pub text_length : (bytes text : List ℕ) → text ≡ encode_upper bytes → length text ≡ 2 * length bytes
text_length bytes text is = ap length is ∙ upper_length bytes
