-- Bytes in blocks: their lengths, and the byte at a place.
use Rattle.std.proofs.Common.{◌≡◌, ℕ, zero, suc, ◌+◌, ◌-◌, ◌*◌, ◌/◌, ◌%◌, ◌<◌, ◌≤◌, List, [], ◌∷◌, ◌++◌, length, drop, get_or, sym, ◌∙◌, ap, arith, length-append, length-drop}
use Rattle.std.proofs.lemmas.List.{get_or-append_right, get_or_append_left, get_or-append-add, get_or-take, get_or-drop, get_or-replicate, length-take-le, length-replicate}
use Rattle.std.proofs.Math.Nat.{mul-div-le, lt_of_mul-lt-mul_left}
use Rattle.core_file.specs.internal.Joined.{block_of, joined, AreInside}

-- Each block has `size` bytes.
pub length_block : (size : ℕ) (held : List ℕ) (p : ℕ) → size * p ≤ length held → length (block_of size held p) ≡ size
unfolding block_of
length_block size held zero inside = length-replicate size 0
length_block size held (suc k) inside = length-take-le size (drop (size * k) held) (omega (arith, length-drop (size * k) held))

pub length_joined : (size : ℕ) (held places : List ℕ) → AreInside size (length held) places → length (joined size held places) ≡ size * length places
unfolding joined
length_joined size held [] inside = omega arith
length_joined size held (p ∷ places) inside =
    length-append (block_of size held p) (joined size held places)
    ∙ omega (arith, length_block size held p inside.0, length_joined size held places inside.1)

-- The byte at a place is a byte of the block that contains the place.
byte_of : (size : ℕ) (held places : List ℕ) (q r : ℕ) → AreInside size (length held) places → q < length places → r < size → get_or (joined size held places) (size * q + r) 0 ≡ get_or (block_of size held (get_or places q 0)) r 0
unfolding joined
byte_of size held [] q r inside within short = absurd (omega arith)
byte_of size held (p ∷ places) zero r inside within short =
    let e : size * 0 + r ≡ r = omega arith in
    let l : length (block_of size held p) ≡ size = length_block size held p inside.0 in
    ap (λ i. get_or (block_of size held p ++ joined size held places) i 0) e
    ∙ get_or_append_left (block_of size held p) (joined size held places) 0 r (omega arith)
byte_of size held (p ∷ places) (suc q) r inside within short =
    let l : length (block_of size held p) ≡ size = length_block size held p inside.0 in
    let e : size * suc q + r ≡ length (block_of size held p) + (size * q + r) = omega arith in
    ap (λ i. get_or (block_of size held p ++ joined size held places) i 0) e
    ∙ get_or-append-add (block_of size held p) (joined size held places) (size * q + r) 0
    ∙ byte_of size held places q r inside.1 (omega arith) short

-- A place before the end of the blocks lies in one of them.
pub place_in_block : (size n at : ℕ) → 0 < size → at < size * n → at / size < n
place_in_block size n at some before = lt_of_mul-lt-mul_left size (omega (arith, mul-div-le at size))

pub inside_at : (size len : ℕ) (places : List ℕ) (q : ℕ) → AreInside size len places → q < length places → size * get_or places q 0 ≤ len
inside_at size len [] q inside within = absurd (omega arith)
inside_at size len (p ∷ places) zero inside within = inside.0
inside_at size len (p ∷ places) (suc q) inside within = inside_at size len places q inside.1 (omega arith)

-- The byte at a place before the end of the blocks.
byte_before : (size : ℕ) (held places tail : List ℕ) (at : ℕ) → 0 < size → AreInside size (length held) places → at < size * length places → get_or (joined size held places ++ tail) at 0 ≡ get_or (block_of size held (get_or places (at / size) 0)) (at % size) 0
byte_before size held places tail at some inside before =
    let l : length (joined size held places) ≡ size * length places = length_joined size held places inside in
    let q : at / size < length places = place_in_block size (length places) at some before in
    let r : at % size < size = omega arith in
    let e : at ≡ size * (at / size) + at % size = omega arith in
    get_or_append_left (joined size held places) tail 0 at (omega arith)
    ∙ ap (λ i. get_or (joined size held places) i 0) e
    ∙ byte_of size held places (at / size) (at % size) inside q r

pub byte_of_zeros : (size : ℕ) (held places tail : List ℕ) (at : ℕ) → 0 < size → AreInside size (length held) places → at < size * length places → get_or places (at / size) 0 ≡ 0 → get_or (joined size held places ++ tail) at 0 ≡ 0
unfolding block_of
byte_of_zeros size held places tail at some inside before zeros =
    let r : at % size < size = omega arith in
    byte_before size held places tail at some inside before
    ∙ ap (λ p. get_or (block_of size held p) (at % size) 0) zeros
    ∙ get_or-replicate size (at % size) 0 0 r

of_held : (size : ℕ) (held : List ℕ) (p r : ℕ) → 0 < p → r < size → get_or (block_of size held p) r 0 ≡ get_or held (size * (p - 1) + r) 0
unfolding block_of
of_held size held zero r some short = absurd (omega arith)
of_held size held (suc k) r some short =
    let e : suc k - 1 ≡ k = omega arith in
    get_or-take size (drop (size * k) held) r 0 short ∙ get_or-drop (size * k) held r 0
    ∙ ap (λ j. get_or held (size * j + r) 0) (sym e)

pub byte_of_block : (size : ℕ) (held places tail : List ℕ) (at : ℕ) → 0 < size → AreInside size (length held) places → at < size * length places → 0 < get_or places (at / size) 0 → get_or (joined size held places ++ tail) at 0 ≡ get_or held (size * (get_or places (at / size) 0 - 1) + at % size) 0
byte_of_block size held places tail at some inside before nonzero =
    let r : at % size < size = omega arith in
    byte_before size held places tail at some inside before ∙ of_held size held (get_or places (at / size) 0) (at % size) nonzero r

-- The byte at a place after the blocks.
pub byte_behind : (size : ℕ) (held places tail : List ℕ) (at : ℕ) → AreInside size (length held) places → size * length places ≤ at → get_or (joined size held places ++ tail) at 0 ≡ get_or tail (at - size * length places) 0
byte_behind size held places tail at inside behind =
    get_or-append_right (joined size held places) tail (size * length places) at 0 (length_joined size held places inside) behind

-- A byte of a held block is among the held bytes.
pub block_before : (size len p r : ℕ) → 0 < p → r < size → size * p ≤ len → size * (p - 1) + r < len
block_before size len zero r some short inside = absurd (omega arith)
block_before size len (suc k) r some short inside = let e : suc k - 1 ≡ k = omega arith in rw e (omega arith)

pub held_before : (size len : ℕ) (places : List ℕ) (at : ℕ) → 0 < size → AreInside size len places → at < size * length places → 0 < get_or places (at / size) 0 → size * (get_or places (at / size) 0 - 1) + at % size < len
held_before size len places at some inside before nonzero =
    let r : at % size < size = omega arith in
    block_before size len (get_or places (at / size) 0) (at % size) nonzero r
    (inside_at size len places (at / size) inside (place_in_block size (length places) at some before))

pub behind_inside : (size : ℕ) (held places tail : List ℕ) (at : ℕ) → AreInside size (length held) places → size * length places ≤ at → at < length (joined size held places ++ tail) → at - size * length places < length tail
behind_inside size held places tail at inside behind within =
    omega (arith, length-append (joined size held places) tail, length_joined size held places inside)
