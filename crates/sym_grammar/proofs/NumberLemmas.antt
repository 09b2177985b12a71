-- Numbers, read digit by digit (for `hex_field`, `digits_upto`, `decimal_value` and `integer_of`).
use Rattle.std.proofs.Common.{◌≡◌, ◌≢◌, ℕ, ◌+◌, ◌*◌, ◌/◌, ◌^◌, ◌<◌, ◌≤◌, ◌==◌, ◌&&◌, cond, zero, suc, Bool, true, false, ℤ, pos, negsuc, neg_ℤ, List, [], ◌∷◌, length, drop, get_or, Option, Some, None, nat_lt, nat_le, refl, sym, ◌∙◌, ap, arith}
use Rattle.std.specs.List.{list_all}
use Rattle.std.specs.Option.{option_map}
use Rattle.std.specs.Char.{digit_value}
use Rattle.std.specs.Str.Parse.{digits_value, digits_value_after}
use Rattle.std.proofs.Math.Nat.{pow-le-pow_right, pow-suc}
use Rattle.std.proofs.lemmas.List.{at_drop_more, at_drop_all}
use Rattle.std.proofs.lemmas.Bool.{lt-ltb, le-ltb, le-leb, lt-leb}
use Rattle.std.proofs.lemmas.Bool.Decides.{nat_tests}
use Rattle.sym_rules.proofs.BoolLemmas.{elim_bool}
use Rattle.sym_rules.specs.RuleReading.{is_digit, are_digits, in_i64, integer_of}
use Rattle.sym_records.specs.FieldReading.{hex_onto, hex_value, decimal_value}
use Rattle.sym_grammar.specs.internal.Runs.{ten_digit, upto, digits_upto}

-- Hexadecimal numbers.

pub hex_long : (ds : List ℕ) → 16 < length ds → hex_value ds ≡ None
unfolding hex_value
hex_long ds long = ap (λ t. cond t None (hex_onto 0 ds)) (lt-ltb 16 (length ds) long)

pub hex_short : (ds : List ℕ) → length ds ≤ 16 → hex_value ds ≡ hex_onto 0 ds
unfolding hex_value
hex_short ds short = ap (λ t. cond t None (hex_onto 0 ds)) (le-ltb 16 (length ds) short)

pub hex_grows : (n v i : ℕ) → n < 16 ^ i → v < 16 → n * 16 + v < 16 ^ (i + 1)
hex_grows n v i less small =
    let next : i + 1 ≡ suc i = omega arith in
    let power : 16 ^ (i + 1) ≡ 16 ^ i * 16 = ap (λ k. 16 ^ k) next ∙ pow-suc 16 i in
    omega (arith, power)

pub hex_small : (n i : ℕ) → n < 16 ^ i → i < 16 → n < 1152921504606846976
hex_small n i less few = omega (arith, pow-le-pow_right {n = 16} (omega arith) {i = i} {j = 15} (omega arith))

-- Decimal numbers.

upto_next : (limit n d : ℕ) (ds : List ℕ) → upto limit n (d ∷ ds) ≡ cond (is_digit d) (upto limit (n * 10 + digit_value d) ds) None
unfolding upto
upto_next limit n d ds = refl

upto_last : (limit n : ℕ) → upto limit n [] ≡ cond (nat_le n limit) (Some n) None
unfolding upto
upto_last limit n = refl

-- A number above the limit stays above it with more digits.
upto_past : (limit n : ℕ) (ds : List ℕ) → limit < n → upto limit n ds ≡ None
upto_past limit n [] past = upto_last limit n ∙ ap (λ t. cond t (Some n) None) (lt-leb n limit past)
upto_past limit n (d ∷ ds) past =
    upto_next limit n d ds ∙ elim_bool (is_digit d) (λ t. cond t (upto limit (n * 10 + digit_value d) ds) None ≡ None) (λ _. upto_past limit (n * 10 + digit_value d) ds (omega arith)) (λ _. refl)

pub upto_none : (limit : ℕ) (ds : List ℕ) → length ds ≡ 0 → digits_upto limit ds ≡ None
unfolding digits_upto
upto_none limit [] none = refl
upto_none limit (d ∷ ds) none = absurd (omega arith)

pub upto_long : (limit : ℕ) (ds : List ℕ) → 20 < length ds → digits_upto limit ds ≡ None
unfolding digits_upto
upto_long limit ds long = grind (arith, nat_tests)

upto_first : (limit : ℕ) (ds : List ℕ) → length ds ≢ 0 → length ds ≤ 20 → digits_upto limit ds ≡ upto limit 0 ds
unfolding digits_upto
upto_first limit ds some short = grind (arith, nat_tests)

upto_at : (limit n i : ℕ) (ds : List ℕ) → i < length ds → upto limit n (drop i ds) ≡ cond (is_digit (get_or ds i 0)) (upto limit (n * 10 + digit_value (get_or ds i 0)) (drop (i + 1) ds)) None
upto_at limit n i ds within = at_drop_more (upto limit n) ds i 0 within ∙ upto_next limit n (get_or ds i 0) (drop (i + 1) ds)

-- A decimal digit and its value.
ten_some : (d v : ℕ) → Some v ≡ ten_digit d → (is_digit d ≡ true) × (v ≡ digit_value d)
ten_some d v is = elim_bool (is_digit d) (λ t. Some v ≡ cond t (Some (digit_value d)) None → (t ≡ true) × (v ≡ digit_value d)) (λ _ h. (refl, cc)) (λ _ h. cc) is

ten_none : (d : ℕ) → None ≡ ten_digit d → is_digit d ≡ false
ten_none d is = elim_bool (is_digit d) (λ t. None ≡ cond t (Some (digit_value d)) None → t ≡ false) (λ _ h. cc) (λ _ h. refl) is

pub upto_more : (limit n i v : ℕ) (ds : List ℕ) → i < length ds → Some v ≡ ten_digit (get_or ds i 0) → upto limit 0 ds ≡ upto limit n (drop i ds) → upto limit 0 ds ≡ upto limit (n * 10 + v) (drop (i + 1) ds)
upto_more limit n i v ds within is so_far =
    let digit = ten_some (get_or ds i 0) v is in
    so_far ∙ upto_at limit n i ds within ∙ ap (λ t. cond t (upto limit (n * 10 + digit_value (get_or ds i 0)) (drop (i + 1) ds)) None) digit.0
    ∙ ap (λ x. upto limit (n * 10 + x) (drop (i + 1) ds)) (sym digit.1)

pub upto_bad : (limit n i : ℕ) (ds : List ℕ) → length ds ≢ 0 → length ds ≤ 20 → i < length ds → None ≡ ten_digit (get_or ds i 0) → upto limit 0 ds ≡ upto limit n (drop i ds) → digits_upto limit ds ≡ None
upto_bad limit n i ds some short within is so_far =
    upto_first limit ds some short ∙ so_far ∙ upto_at limit n i ds within
    ∙ ap (λ t. cond t (upto limit (n * 10 + digit_value (get_or ds i 0)) (drop (i + 1) ds)) None) (ten_none (get_or ds i 0) is)

pub upto_passed : (limit n i : ℕ) (ds : List ℕ) → length ds ≢ 0 → length ds ≤ 20 → i < length ds → limit / 10 < n → upto limit 0 ds ≡ upto limit n (drop i ds) → digits_upto limit ds ≡ None
upto_passed limit n i ds some short within past so_far =
    upto_first limit ds some short ∙ so_far ∙ upto_at limit n i ds within
    ∙ elim_bool (is_digit (get_or ds i 0)) (λ t. cond t (upto limit (n * 10 + digit_value (get_or ds i 0)) (drop (i + 1) ds)) None ≡ None)
    (λ _. upto_past limit (n * 10 + digit_value (get_or ds i 0)) (drop (i + 1) ds) (omega arith)) (λ _. refl)

pub upto_great : (limit n i : ℕ) (ds : List ℕ) → length ds ≢ 0 → length ds ≤ 20 → limit < n → upto limit 0 ds ≡ upto limit n (drop i ds) → digits_upto limit ds ≡ None
upto_great limit n i ds some short past so_far = upto_first limit ds some short ∙ so_far ∙ upto_past limit n (drop i ds) past

pub upto_end : (limit n i : ℕ) (ds : List ℕ) → length ds ≢ 0 → length ds ≤ 20 → length ds ≤ i → n ≤ limit → upto limit 0 ds ≡ upto limit n (drop i ds) → digits_upto limit ds ≡ Some n
upto_end limit n i ds some short past within so_far =
    upto_first limit ds some short ∙ so_far ∙ at_drop_all (upto limit n) ds i past ∙ upto_last limit n ∙ ap (λ t. cond t (Some n) None) (le-leb n limit within)

-- The definitions by digits, for a limit.

upto_all : (limit n : ℕ) (ds : List ℕ) → upto limit n ds ≡ cond (list_all is_digit ds && nat_le (digits_value_after 10 n ds) limit) (Some (digits_value_after 10 n ds)) None
unfolding upto
upto_all limit n [] = refl
upto_all limit n (d ∷ ds) =
    elim_bool (is_digit d) (λ t. cond t (upto limit (n * 10 + digit_value d) ds) None ≡ cond ((t && list_all is_digit ds) && nat_le (digits_value_after 10 (n * 10 + digit_value d) ds) limit) (Some (digits_value_after 10 (n * 10 + digit_value d) ds)) None)
    (λ _. upto_all limit (n * 10 + digit_value d) ds) (λ _. refl)

pub upto_is : (limit : ℕ) (ds : List ℕ) → digits_upto limit ds ≡ cond (are_digits ds && nat_le (digits_value 10 ds) limit) (Some (digits_value 10 ds)) None
unfolding digits_upto are_digits
upto_is limit ds =
    elim_bool (nat_lt 0 (length ds) && nat_le (length ds) 20) (λ t. cond t (upto limit 0 ds) None ≡ cond ((t && list_all is_digit ds) && nat_le (digits_value 10 ds) limit) (Some (digits_value 10 ds)) None)
    (λ _. upto_all limit 0 ds) (λ _. refl)

below_32 : (v : ℕ) → nat_le v 4294967295 ≡ nat_lt v (2 ^ 32)
below_32 v = grind (arith, nat_tests)

pub decimal_is : (ds : List ℕ) → decimal_value ds ≡ digits_upto 4294967295 ds
unfolding decimal_value
decimal_is ds = sym (upto_is 4294967295 ds ∙ ap (λ t. cond (are_digits ds && t) (Some (digits_value 10 ds)) None) (below_32 (digits_value 10 ds)))

-- Integers.

at_most_63 : (v : ℕ) → nat_lt v (2 ^ 63) ≡ nat_le (suc v) 9223372036854775808
at_most_63 v = grind (arith, nat_tests)

below_63 : (v : ℕ) → nat_lt v (2 ^ 63) ≡ nat_le v 9223372036854775807
below_63 v = grind (arith, nat_tests)

negative_in : (v : ℕ) → in_i64 (neg_ℤ (pos v)) ≡ cond (nat_le v 9223372036854775808) (Some (neg_ℤ (pos v))) None
negative_in zero = refl
negative_in (suc v) = ap (λ t. cond t (Some (negsuc v)) None) (at_most_63 v)

positive_in : (v : ℕ) → in_i64 (pos v) ≡ cond (nat_le v 9223372036854775807) (Some (pos v)) None
positive_in v = ap (λ t. cond t (Some (pos v)) None) (below_63 v)

mapped : (f : ℕ → ℤ) (b : Bool) (v : ℕ) → cond {A = Option ℤ} b (Some (f v)) None ≡ option_map f (cond b (Some v) None)
mapped f true v = refl
mapped f false v = refl

-- An integer that is read and then compared with a bound.
bounded : (f : ℕ → ℤ) (a b : Bool) (v : ℕ) (o : Option ℤ) → o ≡ cond b (Some (f v)) None → cond a o None ≡ option_map f (cond (a && b) (Some v) None)
bounded f true b v o is = is ∙ mapped f b v
bounded f false b v o is = refl

negative_is : (word : List ℕ) → get_or word 0 0 ≡ 45 → integer_of word ≡ option_map (λ n. neg_ℤ (pos n)) (digits_upto 9223372036854775808 (drop 1 word))
unfolding integer_of
negative_is word minus =
    ap (λ b. cond (b == 45) (cond (are_digits (drop 1 word)) (in_i64 (neg_ℤ (pos (digits_value 10 (drop 1 word))))) None) (cond (are_digits word) (in_i64 (pos (digits_value 10 word))) None)) minus
    ∙ bounded (λ n. neg_ℤ (pos n)) (are_digits (drop 1 word)) (nat_le (digits_value 10 (drop 1 word)) 9223372036854775808) (digits_value 10 (drop 1 word)) (in_i64 (neg_ℤ (pos (digits_value 10 (drop 1 word))))) (negative_in (digits_value 10 (drop 1 word)))
    ∙ ap (option_map (λ n. neg_ℤ (pos n))) (sym (upto_is 9223372036854775808 (drop 1 word)))

no_minus : (b : ℕ) → b ≢ 45 → (b == 45) ≡ false
no_minus b other = grind (arith, nat_tests)

positive_is : (word : List ℕ) → get_or word 0 0 ≢ 45 → integer_of word ≡ option_map pos (digits_upto 9223372036854775807 word)
unfolding integer_of
positive_is word other =
    ap (λ t. cond t (cond (are_digits (drop 1 word)) (in_i64 (neg_ℤ (pos (digits_value 10 (drop 1 word))))) None) (cond (are_digits word) (in_i64 (pos (digits_value 10 word))) None)) (no_minus (get_or word 0 0) other)
    ∙ bounded pos (are_digits word) (nat_le (digits_value 10 word) 9223372036854775807) (digits_value 10 word) (in_i64 (pos (digits_value 10 word))) (positive_in (digits_value 10 word))
    ∙ ap (option_map pos) (sym (upto_is 9223372036854775807 word))

pub integer_none : (word : List ℕ) → length word ≡ 0 → integer_of word ≡ None
unfolding integer_of are_digits
integer_none [] none = refl
integer_none (x ∷ word) none = absurd (omega arith)

pub negative_some : (word : List ℕ) (n : ℕ) → get_or word 0 0 ≡ 45 → Some n ≡ digits_upto 9223372036854775808 (drop 1 word) → integer_of word ≡ Some (neg_ℤ (pos n))
negative_some word n minus is = negative_is word minus ∙ ap (option_map (λ x. neg_ℤ (pos x))) (sym is)

pub negative_none : (word : List ℕ) → get_or word 0 0 ≡ 45 → None ≡ digits_upto 9223372036854775808 (drop 1 word) → integer_of word ≡ None
negative_none word minus is = negative_is word minus ∙ ap (option_map (λ x. neg_ℤ (pos x))) (sym is)

pub positive_some : (word : List ℕ) (n : ℕ) → get_or word 0 0 ≢ 45 → Some n ≡ digits_upto 9223372036854775807 word → integer_of word ≡ Some (pos n)
positive_some word n other is = positive_is word other ∙ ap (option_map pos) (sym is)

pub positive_none : (word : List ℕ) → get_or word 0 0 ≢ 45 → None ≡ digits_upto 9223372036854775807 word → integer_of word ≡ None
positive_none word other is = positive_is word other ∙ ap (option_map pos) (sym is)

pub not_empty : (n : ℕ) → false ≡ (n == 0) → n ≢ 0
not_empty n is = grind (arith, nat_tests)
