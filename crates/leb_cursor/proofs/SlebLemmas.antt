-- The results of reading a signed LEB128, case by case.
use Rattle.std.proofs.Common.{lit<, lit≤, ◌≡◌, ◌<◌, ◌≤◌, ◌+◌, ◌-◌, ◌^◌, ℕ, ℤ, pos, negsuc, ◌-ℤ◌, Bool, true, false, cond, ltb, List, length, drop, get_or, min, Option, Some, None, Ok, Err, refl, sym, ap, subst, ◌∙◌, arith, ⊎_elim}
use Rattle.std.proofs.lemmas.Bool.{cases_lt, lt-ltb, le-ltb, cond-true, cond-false}
use Rattle.std.proofs.lemmas.Int.{ints}
use Rattle.leb_cursor.specs.declared.fault.CursorFault.{CursorFault}
use Rattle.leb_cursor.specs.declared.fault.CursorFault.TheVariants.{Ends, LebLong}
use Rattle.leb_cursor.specs.Ahead.{Ahead, passed}
use Rattle.sym_edges.specs.Integers.{fits_i64}
use Rattle.leb_cursor.specs.Readings.{leb_sum, leb_length, sleb_sum, sleb_at, sleb_by}
use Rattle.leb_cursor.specs.internal.Groups.{SoFar, EndsWith}
use Rattle.leb_cursor.proofs.AheadLemmas.{moved, same_ahead}
use Rattle.leb_cursor.proofs.GroupLemmas.{leb_sum_one, leb_length_some, groups_fit}
use Rattle.leb_cursor.proofs.TenthLemmas.{ten_sum, ten_ends, open_short, open_long, sum_small}

-- A difference below zero, and a difference whose second number is 0.
below_zero : (a b : ℕ) → a < b → pos a -ℤ pos b ≡ negsuc (b - a - 1)
below_zero a b lt = omega (arith, ints)

less_none : (a : ℕ) → pos a -ℤ pos 0 ≡ pos a
less_none a = omega (arith, ints)

sleb_is : (c : Ahead) (count : Option ℕ) → leb_length c.bytes ≡ count → sleb_at c ≡ sleb_by c count
unfolding sleb_at
sleb_is c count is = ap (sleb_by c) is

-- The value of `count` groups, if bit 6 of the last byte is clear and if it is set.
sum_plain : (count : ℕ) (bytes : List ℕ) → get_or bytes (count - 1) 0 < 64 → sleb_sum count bytes ≡ pos (leb_sum count bytes)
unfolding sleb_sum
sum_plain count bytes clear =
    ap (λ (n : ℕ). pos (leb_sum count bytes) -ℤ pos n) (cond-true _ _ _ (lt-ltb _ _ clear)) ∙ less_none (leb_sum count bytes)

sum_lessened : (count : ℕ) (bytes : List ℕ) → 64 ≤ get_or bytes (count - 1) 0 → sleb_sum count bytes ≡ pos (leb_sum count bytes) -ℤ pos (128 ^ count)
unfolding sleb_sum
sum_lessened count bytes set =
    ap (λ (n : ℕ). pos (leb_sum count bytes) -ℤ pos n) (cond-false _ _ _ (le-ltb _ _ set))

sleb_fits : (c : Ahead) (value : ℤ) (count : ℕ) → sleb_sum count c.bytes ≡ value → fits_i64 value ≡ true → sleb_by c (Some count) ≡ Ok (value, passed count c)
sleb_fits c value count is fits =
    cond-true _ _ _ (ap fits_i64 is ∙ fits) ∙ ap (λ (z : ℤ). Ok (z, passed count c)) is

sleb_leaves : (c : Ahead) (value : ℤ) (count : ℕ) → sleb_sum count c.bytes ≡ value → fits_i64 value ≡ false → sleb_by c (Some count) ≡ Err (LebLong c.at)
sleb_leaves c value count is leaves = cond-false _ _ _ (ap fits_i64 is ∙ leaves)

-- A sum below 2^63 fits into an i64, and so does a sum less a power of 128 above it.
fits_plain : (sum : ℕ) → sum < 2 ^ 63 → fits_i64 (pos sum) ≡ true
fits_plain sum small = lt-ltb _ _ small

fits_lessened : (sum whole : ℕ) → sum < whole → whole ≤ 2 ^ 63 → fits_i64 (pos sum -ℤ pos whole) ≡ true
fits_lessened sum whole below small = ap fits_i64 (below_zero sum whole below) ∙ lt-ltb _ _ (omega arith)

-- The value of a LEB128 of one byte.
sum_first : (bytes : List ℕ) (byte : ℕ) → byte ≡ get_or bytes 0 0 → byte < 128 → sleb_sum 1 bytes ≡ pos byte -ℤ pos (cond (ltb byte 64) 0 128)
unfolding sleb_sum
sum_first bytes byte is small = rw (leb_sum_one bytes byte is small, ← is) refl

fits_byte : (byte : ℕ) → byte < 128 → fits_i64 (pos byte -ℤ pos (cond (ltb byte 64) 0 128)) ≡ true
fits_byte byte small =
    ⊎_elim
    (λ clear. ap (λ (b : Bool). fits_i64 (pos byte -ℤ pos (cond b 0 128))) (lt-ltb _ _ clear) ∙ ap fits_i64 (less_none byte) ∙ fits_plain byte (omega arith))
    (λ set. ap (λ (b : Bool). fits_i64 (pos byte -ℤ pos (cond b 0 128))) (le-ltb _ _ set) ∙ fits_lessened byte 128 small (lit≤ tt))
    (cases_lt byte 64)

pub sleb_plain : (c : Ahead) (sum count : ℕ) → EndsWith sum count c.bytes → get_or c.bytes (count - 1) 0 < 64 → sleb_at c ≡ Ok (pos sum, passed count c)
sleb_plain c sum count h clear =
    let room : 128 ^ count ≤ 2 ^ 63 = groups_fit count h.few in
    let below : sum < 128 ^ count = h.below in
    sleb_is c (Some count) h.ended
    ∙ sleb_fits c (pos sum) count (sum_plain count c.bytes clear ∙ ap pos (sym h.sum_is)) (fits_plain sum (omega arith))

pub sleb_lessened : (c : Ahead) (sum count : ℕ) → EndsWith sum count c.bytes → 64 ≤ get_or c.bytes (count - 1) 0 → sleb_at c ≡ Ok (pos sum -ℤ pos (128 ^ count), passed count c)
sleb_lessened c sum count h set =
    sleb_is c (Some count) h.ended
    ∙ sleb_fits c (pos sum -ℤ pos (128 ^ count)) count
    (sum_lessened count c.bytes set ∙ ap (λ (n : ℕ). pos n -ℤ pos (128 ^ count)) (sym h.sum_is))
    (fits_lessened sum (128 ^ count) h.below (groups_fit count h.few))

pub sleb_short : (c : Ahead) (sum : ℕ) → SoFar sum (min 9 (length c.bytes)) c.bytes → length c.bytes < 10 → sleb_at c ≡ Err (Ends c.at)
sleb_short c sum h short =
    let e = open_short c sum h short in
    sleb_is c None e.0 ∙ ap Err e.1

-- A tenth byte of 0 adds nothing.
pub sleb_zero : (c : Ahead) (sum : ℕ) → SoFar sum (min 9 (length c.bytes)) c.bytes → 10 ≤ length c.bytes → get_or c.bytes 9 0 ≡ 0 → sleb_at c ≡ Ok (pos sum, passed 10 c)
sleb_zero c sum h enough is =
    let total = ten_sum c sum h enough in
    let same : leb_sum 10 c.bytes ≡ sum = omega arith in
    sleb_is c (Some 10) (ten_ends c sum h enough (omega arith))
    ∙ sleb_fits c (pos sum) 10 (sum_plain 10 c.bytes (omega arith) ∙ ap pos same) (fits_plain sum (sum_small c sum h enough))

-- A tenth byte of 127 subtracts 2^63.
pub sleb_ones : (c : Ahead) (sum : ℕ) → SoFar sum (min 9 (length c.bytes)) c.bytes → 10 ≤ length c.bytes → get_or c.bytes 9 0 ≡ 127 → sleb_at c ≡ Ok (pos sum -ℤ pos (128 ^ 9), passed 10 c)
sleb_ones c sum h enough is =
    let total = ten_sum c sum h enough in
    let small = sum_small c sum h enough in
    let value : pos (leb_sum 10 c.bytes) -ℤ pos (128 ^ 10) ≡ pos sum -ℤ pos (128 ^ 9) = omega (arith, ints) in
    sleb_is c (Some 10) (ten_ends c sum h enough (omega arith))
    ∙ sleb_fits c (pos sum -ℤ pos (128 ^ 9)) 10 (sum_lessened 10 c.bytes (omega arith) ∙ value)
    (fits_lessened sum (128 ^ 9) small (lit≤ tt))

-- Any other tenth byte makes the number too long.
pub sleb_long : (c : Ahead) (sum : ℕ) → SoFar sum (min 9 (length c.bytes)) c.bytes → 10 ≤ length c.bytes → (get_or c.bytes 9 0 ≡ 0 → ⊥) → (get_or c.bytes 9 0 ≡ 127 → ⊥) → sleb_at c ≡ Err (LebLong c.at)
sleb_long c sum h enough zero ones =
    let total = ten_sum c sum h enough in
    let small = sum_small c sum h enough in
    ⊎_elim
    (λ clear.
    sleb_is c (Some 10) (ten_ends c sum h enough (omega arith))
    ∙ sleb_leaves c (pos (leb_sum 10 c.bytes)) 10 (sum_plain 10 c.bytes clear) (le-ltb _ _ (omega arith)))
    (λ set. ⊎_elim
    (λ ends.
    sleb_is c (Some 10) (ten_ends c sum h enough ends)
    ∙ sleb_leaves c (negsuc (128 ^ 10 - leb_sum 10 c.bytes - 1)) 10
    (sum_lessened 10 c.bytes set ∙ below_zero (leb_sum 10 c.bytes) (128 ^ 10) (omega arith))
    (le-ltb _ _ (omega arith)))
    (λ going.
    let e = open_long c sum h enough going in
    sleb_is c None e.0 ∙ ap Err e.1)
    (cases_lt (get_or c.bytes 9 0) 128))
    (cases_lt (get_or c.bytes 9 0) 64)

-- A first byte without bit 7 is the number, minus 128 if it has bit 6.
pub sleb_first : (place byte : ℕ) (bytes rest : List ℕ) (c : Ahead) → record { bytes = drop place bytes; at = place } ≡ c → rest ≡ c.bytes → 0 < length rest → byte ≡ get_or rest 0 0 → byte < 128 → sleb_at c ≡ Ok (pos byte -ℤ pos (cond (ltb byte 64) 0 128), record { bytes = drop (place + 1) bytes; at = place + 1 })
sleb_first place byte bytes rest c is same some first small =
    let front : byte ≡ get_or c.bytes 0 0 = first ∙ ap (λ (r : List ℕ). get_or r 0 0) same in
    let there : 0 < length c.bytes = subst (λ (r : List ℕ). 0 < length r) same some in
    let ends = leb_length_some 0 c.bytes (lit< tt) there (λ j below. absurd (omega arith)) (omega arith) in
    sleb_is c (Some 1) ends
    ∙ sleb_fits c _ 1 (sum_first c.bytes byte front small) (fits_byte byte small)
    ∙ ap (λ (d : Ahead). Ok (pos byte -ℤ pos (cond (ltb byte 64) 0 128), d)) (moved 1 place bytes c is)

-- The value that is read from the front of the rest of the bytes is the value that the cursor
-- reads.
pub sleb_moved : (place : ℕ) (value : ℤ) (count : ℕ) (bytes rest : List ℕ) (c : Ahead) → record { bytes = drop place bytes; at = place } ≡ c → rest ≡ c.bytes → Ok (value, passed count (record { bytes = rest; at = place })) ≡ sleb_at (record { bytes = rest; at = place }) → sleb_at c ≡ Ok (value, record { bytes = drop (place + count) bytes; at = place + count })
sleb_moved place value count bytes rest c is same read =
    let front : record { bytes = rest; at = place } ≡ c = same_ahead place bytes rest c is same in
    sym (ap sleb_at front) ∙ sym read ∙ ap (λ (d : Ahead). Ok (value, passed count d)) front ∙ ap (λ (d : Ahead). Ok (value, d)) (moved count place bytes c is)

pub sleb_refused : (place : ℕ) (fault : CursorFault) (bytes rest : List ℕ) (c : Ahead) → record { bytes = drop place bytes; at = place } ≡ c → rest ≡ c.bytes → Err fault ≡ sleb_at (record { bytes = rest; at = place }) → sleb_at c ≡ Err fault
sleb_refused place fault bytes rest c is same read =
    let front : record { bytes = rest; at = place } ≡ c = same_ahead place bytes rest c is same in
    sym (ap sleb_at front) ∙ sym read
