-- The sum of the groups of a LEB128, computed group by group.
use Rattle.std.proofs.Common.{lit<, add-one, ◌≡◌, ◌<◌, ◌≤◌, ◌+◌, ◌*◌, ◌^◌, ◌%◌, ℕ, zero, suc, List, length, take, get_or, ltb, min, Some, None, sym, ap, ◌∙◌, arith, below_more, refl}
use Rattle.std.specs.Option.{option_map}
use Rattle.std.proofs.lemmas.Bool.{lt-ltb, le-ltb}
use Rattle.std.proofs.lemmas.List.FromFn.{sum_by-map-range_with_len_more}
use Rattle.std.proofs.lemmas.List.{get_or-take, length-take}
use Rattle.std.proofs.lemmas.Nat.{one_shl, shl_whole, pow-add}
use Rattle.std.proofs.Math.Nat.{pow-suc, mul-suc, mul-le-mul_right, pow-le-pow_right}
use Rattle.leb_cursor.specs.Readings.{leb_sum, leb_length}
use Rattle.leb_cursor.specs.internal.Groups.{SoFar, EndsWith}
use Rattle.leb_cursor.proofs.PlaceLemmas.{position_some, position_none}

pub leb_sum_more : (k : ℕ) (bytes : List ℕ) → leb_sum (k + 1) bytes ≡ leb_sum k bytes + get_or bytes k 0 % 128 * 128 ^ k
unfolding leb_sum
leb_sum_more k bytes =
    sum_by-map-range_with_len_more (λ (x : ℕ). x) (λ (i : ℕ). get_or bytes i 0 % 128 * 128 ^ i) 0 k k (omega arith)

pub leb_sum_one : (bytes : List ℕ) (byte : ℕ) → byte ≡ get_or bytes 0 0 → byte < 128 → leb_sum 1 bytes ≡ byte
unfolding leb_sum
leb_sum_one bytes byte is small = omega arith

-- A shift by 7 bits for each of k groups is a product with 128^k.
weight : (k : ℕ) → 2 ^ (7 * k) ≡ 128 ^ k
weight zero = refl
weight (suc k) =
    ap (λ (n : ℕ). 2 ^ n) (mul-suc 7 k) ∙ pow-add 2 (7 * k) 7 ∙ ap (λ (n : ℕ). n * 128) (weight k) ∙ sym (pow-suc 128 k)

-- One, shifted by 7 bits for each group, is 128^count.
pub one_weight : (count : ℕ) → count ≤ 9 → (1 * 2 ^ (7 * count)) % 2 ^ 64 ≡ 128 ^ count
one_weight count few = one_shl (7 * count) 64 (omega arith) ∙ weight count

shifted : (group k : ℕ) → group < 128 → k < 9 → (group * 2 ^ (7 * k)) % 2 ^ 64 ≡ group * 128 ^ k
shifted group k small few =
    shl_whole group 7 (7 * k) 64 small (omega arith) ∙ ap (λ (w : ℕ). group * w) (weight k)

next_below : (sum group k : ℕ) → sum < 128 ^ k → group < 128 → sum + group * 128 ^ k < 128 ^ (k + 1)
next_below sum group k below small =
    let product : group * 128 ^ k ≤ 127 * 128 ^ k = mul-le-mul_right (128 ^ k) (omega arith) in
    rw (add-one, pow-suc) (omega arith)

pub groups_fit : (k : ℕ) → k ≤ 9 → 128 ^ k ≤ 2 ^ 63
groups_fit k few = pow-le-pow_right {n = 128} (lit< tt) few

pub leb_length_some : (k : ℕ) (bytes : List ℕ) → k < 10 → k < length bytes → ((j : ℕ) → j < k → 128 ≤ get_or bytes j 0) → get_or bytes k 0 < 128 → leb_length bytes ≡ Some (k + 1)
unfolding leb_length
leb_length_some k bytes few there each ends =
    ap (option_map (λ (n : ℕ). n + 1))
    (position_some (λ byte. ltb byte 128) (take 10 bytes) k (rw length-take (omega arith))
    (λ j below. let among : j < 10 = omega arith in rw get_or-take (le-ltb _ _ (each j below))) (rw get_or-take (lt-ltb _ _ ends)))

pub leb_length_none : (bytes : List ℕ) → ((j : ℕ) → j < min 10 (length bytes) → 128 ≤ get_or bytes j 0) → leb_length bytes ≡ None
unfolding leb_length
leb_length_none bytes each =
    ap (option_map (λ (n : ℕ). n + 1))
    (position_none (λ byte. ltb byte 128) (take 10 bytes) (λ j below.
    let short : j < min 10 (length bytes) = rw length-take at below in
    let few : j < 10 = omega arith in
    rw get_or-take (le-ltb _ _ (each j short))))

leb_sum_none : (bytes : List ℕ) → 0 ≡ leb_sum 0 bytes
unfolding leb_sum
leb_sum_none bytes = refl

pub so_far_none : (bytes : List ℕ) → SoFar 0 0 bytes
so_far_none bytes =
    record { there = omega arith; each = λ k below. absurd (omega arith); sum_is = leb_sum_none bytes; below = lit< tt }

-- The code's sum with the group of the next byte is the defined sum of one group more.
sum_more : (sum k : ℕ) (bytes : List ℕ) → SoFar sum k bytes → k < 9 → sum + (get_or bytes k 0 % 128 * 2 ^ (7 * k)) % 2 ^ 64 ≡ leb_sum (k + 1) bytes
sum_more sum k bytes so_far few =
    rw (shifted (get_or bytes k 0 % 128) k (omega arith) few, so_far.sum_is) (sym (leb_sum_more k bytes))

below_next : (sum k : ℕ) (bytes : List ℕ) → SoFar sum k bytes → k < 9 → sum + (get_or bytes k 0 % 128 * 2 ^ (7 * k)) % 2 ^ 64 < 128 ^ (k + 1)
below_next sum k bytes so_far few =
    rw (shifted (get_or bytes k 0 % 128) k (omega arith) few)
    (next_below sum (get_or bytes k 0 % 128) k so_far.below (omega arith))

pub so_far_fits : (sum k : ℕ) (bytes : List ℕ) → SoFar sum k bytes → k < 9 → sum + (get_or bytes k 0 % 128 * 2 ^ (7 * k)) % 2 ^ 64 < 2 ^ 64
so_far_fits sum k bytes so_far few =
    let below = below_next sum k bytes so_far few in
    let fits : 128 ^ (k + 1) ≤ 2 ^ 63 = groups_fit (k + 1) (omega arith) in
    omega arith

pub so_far_more : (sum k : ℕ) (bytes : List ℕ) → SoFar sum k bytes → k < 9 → k < length bytes → 128 ≤ get_or bytes k 0 → SoFar (sum + (get_or bytes k 0 % 128 * 2 ^ (7 * k)) % 2 ^ 64) (k + 1) bytes
so_far_more sum k bytes so_far few there going = record {
  there = omega arith;
  each = below_more _ _ so_far.each going;
  sum_is = sum_more sum k bytes so_far few;
  below = below_next sum k bytes so_far few;
}

pub so_far_ends : (sum k : ℕ) (bytes : List ℕ) → SoFar sum k bytes → k < 9 → k < length bytes → get_or bytes k 0 < 128 → EndsWith (sum + (get_or bytes k 0 % 128 * 2 ^ (7 * k)) % 2 ^ 64) (k + 1) bytes
so_far_ends sum k bytes so_far few there ends = record {
  ended = leb_length_some k bytes (omega arith) there so_far.each ends;
  there = omega arith;
  some = omega arith;
  few = omega arith;
  sum_is = sum_more sum k bytes so_far few;
  below = below_next sum k bytes so_far few;
}

pub ended_small : (sum count : ℕ) (bytes : List ℕ) → EndsWith sum count bytes → sum < 2 ^ 63
ended_small sum count bytes h =
    let fits : 128 ^ count ≤ 2 ^ 63 = groups_fit count h.few in
    let below : sum < 128 ^ count = h.below in
    omega arith
