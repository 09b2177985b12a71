-- The hexadecimal digits of a number (for `write_hex`).
use Rattle.std.proofs.Common.{◌≡◌, ◌≢◌, ℕ, ◌+◌, ◌-◌, ◌/◌, ◌%◌, ◌^◌, ◌*◌, ◌<◌, ◌≤◌, ◌==◌, nat_lt, zero, suc, false, cond, List, [], ◌∷◌, length, ◌++◌, append_assoc, drop, get_or, inl, inr, refl, sym, ◌∙◌, ap, arith, subst}
use Rattle.std.specs.Int.{from_bool}
use Rattle.std.proofs.lemmas.Bool.{cases_lt, lt-ltb, le-ltb}
use Rattle.std.proofs.lemmas.Bool.Decides.{nat_tests}
use Rattle.std.proofs.Math.Nat.{pow-suc}
use Rattle.std.proofs.lemmas.List.{drop-drop}
use Rattle.std.specs.Fmt.{digits_onto, digit_glyph, digits}
use Rattle.sym_rules.specs.declared.backward.TheConstants.{PAIRS}
use Rattle.sym_rules.proofs.BoolLemmas.{elim_bool}

-- At most `count` hexadecimal digits of a number, before other bytes.
unfoldable pub hex_left : ℕ → ℕ → List ℕ → List ℕ
hex_left count n acc = digits_onto count 16 false n acc

hex_alone : (n : ℕ) → hex_left 64 n [] ≡ digits 16 false n
unfolding hex_left digits
hex_alone n = refl

hex_front : (k n : ℕ) (acc : List ℕ) → hex_left k n acc ≡ hex_left k n [] ++ acc
unfolding hex_left
hex_front zero n acc = refl
hex_front (suc k) n acc =
    elim_bool (n / 16 == 0) (λ t. cond t (digit_glyph false (n % 16) ∷ acc) (hex_left k (n / 16) (digit_glyph false (n % 16) ∷ acc)) ≡ cond t (digit_glyph false (n % 16) ∷ []) (hex_left k (n / 16) (digit_glyph false (n % 16) ∷ [])) ++ acc)
    (λ _. refl)
    (λ _. hex_front k (n / 16) (digit_glyph false (n % 16) ∷ acc) ∙ sym (ap (λ l. l ++ acc) (hex_front k (n / 16) (digit_glyph false (n % 16) ∷ [])) ∙ append_assoc (hex_left k (n / 16) []) (digit_glyph false (n % 16) ∷ []) acc))

-- All digits of a number, before other bytes.
pub hex_first : (n : ℕ) (acc : List ℕ) → hex_left 64 n acc ≡ digits 16 false n ++ acc
hex_first n acc = hex_front 64 n acc ∙ ap (λ l. l ++ acc) (hex_alone n)

last_by : (k n : ℕ) (acc : List ℕ) → n / 16 ≡ 0 → hex_left (suc k) n acc ≡ digit_glyph false (n % 16) ∷ acc
unfolding hex_left
last_by k n acc is = grind (arith, nat_tests)

more_by : (k n : ℕ) (acc : List ℕ) → n / 16 ≢ 0 → hex_left (suc k) n acc ≡ hex_left k (n / 16) (digit_glyph false (n % 16) ∷ acc)
unfolding hex_left
more_by k n acc some = grind (arith, nat_tests)

pub hex_last : (count n : ℕ) (acc : List ℕ) → 0 < count → n / 16 ≡ 0 → hex_left count n acc ≡ digit_glyph false (n % 16) ∷ acc
hex_last count n acc some is = let k : count ≡ suc (count - 1) = omega arith in ap (λ c. hex_left c n acc) k ∙ last_by (count - 1) n acc is

pub hex_more : (count less n : ℕ) (acc : List ℕ) → count ≡ less + 1 → n / 16 ≢ 0 → hex_left count n acc ≡ hex_left less (n / 16) (digit_glyph false (n % 16) ∷ acc)
hex_more count less n acc is some = let k : count ≡ suc less = omega arith in ap (λ c. hex_left c n acc) k ∙ more_by less n acc some

-- The two digits of a byte; the digits of some consecutive bytes.
abbrev pub pair : ℕ → List ℕ
pair byte = digit_glyph false (byte / 16) ∷ digit_glyph false (byte % 16) ∷ []

pairs : ℕ → ℕ → List ℕ
pairs from zero = []
pairs from (suc n) = pair from ++ pairs (from + 1) n

pair_at : (from n k : ℕ) → k < n → get_or (pairs from n) (k * 2) 0 ∷ get_or (pairs from n) (k * 2 + 1) 0 ∷ [] ≡ pair (from + k)
unfolding pairs
pair_at from zero k below = absurd (omega (arith, below))
pair_at from (suc n) zero below = let first : from + 0 ≡ from = omega arith in rw first refl
pair_at from (suc n) (suc k) below =
    let next : from + suc k ≡ from + 1 + k = omega arith in
    let high : suc k * 2 ≡ suc (suc (k * 2)) = omega arith in
    let low : suc (suc (k * 2)) + 1 ≡ suc (suc (k * 2 + 1)) = omega arith in
    rw (next, high, low) (pair_at (from + 1) n k (omega (arith, below)))

-- The table has the digits of each byte.
pub pair_put : (text behind acc : List ℕ) (byte : ℕ) → byte < 256 → text ≡ get_or PAIRS (byte * 2) 0 ∷ behind → behind ≡ get_or PAIRS (byte * 2 + 1) 0 ∷ acc → text ≡ pair byte ++ acc
unfolding pairs
pair_put text behind acc byte below high low =
    let plain : 0 + byte ≡ byte = omega arith in
    high ∙ ap (λ l. get_or PAIRS (byte * 2) 0 ∷ l) low ∙ ap (λ l. l ++ acc) (pair_at 0 256 byte below ∙ ap pair plain)

hex_two : (count less n : ℕ) (acc : List ℕ) → count ≡ less + 2 → n / 256 ≢ 0 → hex_left count n acc ≡ hex_left less (n / 256) (pair (n % 256) ++ acc)
hex_two count less n acc is some =
    let left : n / 16 / 16 ≡ n / 256 = omega arith in
    let high : n / 16 % 16 ≡ n % 256 / 16 = omega arith in
    let low : n % 16 ≡ n % 256 % 16 = omega arith in
    hex_more count (less + 1) n acc (omega (arith, is)) (λ none. some (omega (arith, none)))
    ∙ hex_more (less + 1) less (n / 16) (digit_glyph false (n % 16) ∷ acc) refl (λ none. some (omega (arith, none)))
    ∙ rw (left, high, low) refl

-- The last two digits; a leading 0 is left out.
hex_end : (count n : ℕ) (acc : List ℕ) → 1 < count → n / 256 ≡ 0 → hex_left count n acc ≡ drop (from_bool (nat_lt (n % 256) 16)) (pair (n % 256) ++ acc)
hex_end count n acc some none =
    let byte : n % 256 ≡ n = omega (arith, none) in
    rw byte (elim (cases_lt n 16) [
      | inl one ↦ rw (lt-ltb n 16 one) (hex_last count n acc (omega (arith, some)) (omega (arith, one)))
      | inr two ↦
          let high : n / 16 % 16 ≡ n / 16 = omega (arith, none) in
          rw (le-ltb n 16 two) (hex_more count (count - 1) n acc (omega (arith, some)) (λ zero. omega (arith, zero, two))
          ∙ hex_last (count - 1) (n / 16) (digit_glyph false (n % 16) ∷ acc) (omega (arith, some)) (omega (arith, none))
          ∙ ap (λ d. digit_glyph false d ∷ digit_glyph false (n % 16) ∷ acc) high)
    ])

-- After its last digits, the number is written.
pub last_put : (new acc whole : List ℕ) (start count rest : ℕ) → 1 < count → hex_left count rest acc ≡ whole → drop start new ≡ pair (rest % 256) ++ acc → rest / 256 ≡ 0 → drop (start + from_bool (nat_lt (rest % 256) 16)) new ≡ whole
last_put new acc whole start count rest some written put none =
    sym (drop-drop (from_bool (nat_lt (rest % 256) 16)) start new) ∙ ap (drop (from_bool (nat_lt (rest % 256) 16))) put
    ∙ sym (hex_end count rest acc some none) ∙ written

-- After two more digits, the rest of the number is to be written.
pub more_put : (new acc whole : List ℕ) (start at count less rest : ℕ) → count ≡ less + 2 → at ≡ start → hex_left count rest acc ≡ whole → drop start new ≡ pair (rest % 256) ++ acc → rest / 256 ≢ 0 → hex_left less (rest / 256) (drop at new) ≡ whole
more_put new acc whole start at count less rest is same written put some =
    ap (λ k. hex_left less (rest / 256) (drop k new)) same ∙ ap (hex_left less (rest / 256)) put ∙ sym (hex_two count less rest acc is some) ∙ written

-- Eight bytes are enough for a number.
pub less_left : (rest done : ℕ) → rest < 256 ^ (8 - done) → done < 8 → rest / 256 < 256 ^ (8 - (done + 1))
less_left rest done small below =
    let more : 8 - done ≡ suc (8 - (done + 1)) = omega arith in
    let whole : rest < 256 ^ (8 - (done + 1)) * 256 = subst (λ (p : ℕ). rest < p) (ap (λ k. 256 ^ k) more ∙ pow-suc 256 (8 - (done + 1))) small in
    omega (arith, whole)

length_left : (count k n : ℕ) (acc : List ℕ) → n < 16 ^ suc k → length (hex_left count n acc) ≤ suc k + length acc
unfolding hex_left
length_left zero k n acc small = omega arith
length_left (suc count) zero n acc small =
    let none : n / 16 ≡ 0 = omega arith in
    omega (arith, ap length (last_by count n acc none))
length_left (suc count) (suc k) n acc small =
    let less : n / 16 < 16 ^ suc k = (let whole : n < 16 ^ suc k * 16 = subst (λ (p : ℕ). n < p) (pow-suc 16 (suc k)) small in omega (arith, whole)) in
    elim_bool (n / 16 == 0) (λ t. length (cond t (digit_glyph false (n % 16) ∷ acc) (hex_left count (n / 16) (digit_glyph false (n % 16) ∷ acc))) ≤ suc (suc k) + length acc)
    (λ _. omega arith)
    (λ _. omega (arith, length_left count k (n / 16) (digit_glyph false (n % 16) ∷ acc) less))

ap_le : {a b : List ℕ} {k : ℕ} → a ≡ b → length b ≤ k → length a ≤ k
ap_le is short = omega (arith, ap length is)

pub length_hex : (n : ℕ) → n < 2 ^ 64 → length (digits 16 false n) ≤ 16
length_hex n small = ap_le (sym (hex_alone n)) (length_left 64 15 n [] (omega arith))
