-- The complete blocks of a list that grows, and how many of them are held.
use Rattle.std.proofs.Common.{◌≡◌, ℕ, zero, suc, ◌+◌, ◌-◌, ◌*◌, ◌/◌, ◌<◌, ◌≤◌, true, cond, List, [], ◌∷◌, ◌++◌, length, take, drop, refl, sym, ◌∙◌, ap, arith, length-append}
use Rattle.std.specs.Prelude.{count_by, ◌||◌, nat_lt}
use Rattle.std.proofs.lemmas.List.{take-append-le, drop-append-le, length-drop, take_all}
use Rattle.std.proofs.lemmas.List.Sums.{sum_by-append}
use Rattle.std.proofs.lemmas.List.FromFn.{map-range_with_len_more}
use Rattle.std.proofs.Math.Seq.{drop-append_seam}
use Rattle.std.proofs.Math.Nat.{mul-div-le, mul-le-mul_left}
use Rattle.std.proofs.lemmas.Nat.{le-div, div-mul-add}
use Rattle.std.proofs.lemmas.Bool.Decides.{nat_tests}
use Rattle.std.proofs.lemmas.Bool.{lt-ltb}
use Rattle.core_file.proofs.BoolLemmas.{or_right}
use Rattle.core_file.specs.HeldBlocks.{has_some, first_blocks, held_blocks, is_past}

-- One complete block more.
blocks_more : (size n : ℕ) (bytes : List ℕ) → first_blocks size (n + 1) bytes ≡ first_blocks size n bytes ++ take size (drop (size * n) bytes) ∷ []
unfolding first_blocks
blocks_more size n bytes = map-range_with_len_more (λ k. take size (drop (size * k) bytes)) 0 n n (omega arith)

count_more : (size n : ℕ) (bytes : List ℕ) → count_by has_some (first_blocks size (n + 1) bytes) ≡ count_by has_some (first_blocks size n bytes) + cond (has_some (take size (drop (size * n) bytes))) 1 0
count_more size n bytes =
    ap (count_by has_some) (blocks_more size n bytes)
    ∙ sum_by-append (λ x. cond (has_some x) 1 0) (first_blocks size n bytes) (take size (drop (size * n) bytes) ∷ [])
    ∙ omega arith

-- A complete block does not change if bytes are added after it.
block_same : (size n : ℕ) (xs ys : List ℕ) → size * (n + 1) ≤ length xs → take size (drop (size * n) (xs ++ ys)) ≡ take size (drop (size * n) xs)
block_same size n xs ys inside =
    ap (take size) (drop-append-le (size * n) xs ys (omega arith))
    ∙ take-append-le size (drop (size * n) xs) ys (omega (arith, length-drop (size * n) xs))

count_same : (size n : ℕ) (xs ys : List ℕ) → size * n ≤ length xs → count_by has_some (first_blocks size n (xs ++ ys)) ≡ count_by has_some (first_blocks size n xs)
unfolding first_blocks
count_same size zero xs ys inside = refl
count_same size (suc n) xs ys inside =
    let e : suc n ≡ n + 1 = omega arith in
    ap (λ k. count_by has_some (first_blocks size k (xs ++ ys))) e ∙ count_more size n (xs ++ ys)
    ∙ ap (λ b. count_by has_some (first_blocks size n (xs ++ ys)) + cond (has_some b) 1 0) (block_same size n xs ys (omega arith))
    ∙ ap (λ k. k + cond (has_some (take size (drop (size * n) xs))) 1 0) (count_same size n xs ys (omega arith))
    ∙ sym (count_more size n xs) ∙ ap (λ k. count_by has_some (first_blocks size k xs)) (sym e)

-- The number of complete blocks.
quotient : (size n r : ℕ) → r < size → (size * n + r) / size ≡ n
quotient size n r short = let e : size * n + r ≡ n * size + r = omega arith in ap (λ k. k / size) e ∙ div-mul-add n size r short

-- Less than one block is added, so no held block is added.
pub held_short : (size n : ℕ) (xs ys : List ℕ) → length xs ≡ size * n → length ys < size → held_blocks size (xs ++ ys) ≡ held_blocks size xs
unfolding held_blocks
held_short size n xs ys long short =
    let e : length (xs ++ ys) / size ≡ n = ap (λ k. k / size) (length-append xs ys ∙ ap (λ k. k + length ys) long) ∙ quotient size n (length ys) short in
    let f : length xs / size ≡ n = ap (λ k. k / size) (long ∙ omega arith) ∙ quotient size n 0 (omega arith) in
    ap (λ k. count_by has_some (first_blocks size k (xs ++ ys))) e ∙ count_same size n xs ys (omega arith)
    ∙ ap (λ k. count_by has_some (first_blocks size k xs)) (sym f)

-- A complete block is added; it is held if some byte of it is not zero.
pub held_full : (size n : ℕ) (xs ys : List ℕ) → 0 < size → length xs ≡ size * n → length ys ≡ size → held_blocks size (xs ++ ys) ≡ held_blocks size xs + cond (has_some ys) 1 0
unfolding held_blocks
held_full size n xs ys some long full =
    let e : length (xs ++ ys) / size ≡ n + 1 = ap (λ k. k / size) (length-append xs ys ∙ omega arith) ∙ quotient size (n + 1) 0 some in
    let f : length xs / size ≡ n = ap (λ k. k / size) (long ∙ omega arith) ∙ quotient size n 0 some in
    let g : take size (drop (size * n) (xs ++ ys)) ≡ ys =
    ap (λ k. take size (drop k (xs ++ ys))) (sym long) ∙ ap (take size) (drop-append_seam xs ys) ∙ take_all size ys (omega arith) in
    ap (λ k. count_by has_some (first_blocks size k (xs ++ ys))) e ∙ count_more size n (xs ++ ys)
    ∙ ap (λ b. count_by has_some (first_blocks size n (xs ++ ys)) + cond (has_some b) 1 0) g
    ∙ ap (λ k. k + cond (has_some ys) 1 0) (count_same size n xs ys (omega arith) ∙ ap (λ k. count_by has_some (first_blocks size k xs)) (sym f))

count_le : (size n m : ℕ) (bytes : List ℕ) → count_by has_some (first_blocks size n bytes) ≤ count_by has_some (first_blocks size (n + m) bytes)
count_le size n zero bytes = let e : n + 0 ≡ n = omega arith in rw e (omega arith)
count_le size n (suc m) bytes =
    let e : n + suc m ≡ (n + m) + 1 = omega arith in
    rw e (omega (arith, count_le size n m bytes, count_more size (n + m) bytes))

-- More bytes have at least as many held blocks.
pub held_grows : (size : ℕ) (xs ys : List ℕ) → 0 < size → held_blocks size xs ≤ held_blocks size (xs ++ ys)
unfolding held_blocks
held_grows size xs ys some =
    let l : length (xs ++ ys) ≡ length xs + length ys = length-append xs ys in
    let a : length xs / size ≤ length (xs ++ ys) / size = le-div (length xs / size) (length (xs ++ ys)) size some (omega (arith, mul-div-le (length xs) size)) in
    let e : length xs / size + (length (xs ++ ys) / size - length xs / size) ≡ length (xs ++ ys) / size = omega arith in
    let s : count_by has_some (first_blocks size (length xs / size) (xs ++ ys)) ≡ count_by has_some (first_blocks size (length xs / size) xs) =
    count_same size (length xs / size) xs ys (mul-div-le (length xs) size) in
    let h : count_by has_some (first_blocks size (length xs / size) (xs ++ ys)) ≤ count_by has_some (first_blocks size (length xs / size + (length (xs ++ ys) / size - length xs / size)) (xs ++ ys)) =
    count_le size (length xs / size) (length (xs ++ ys) / size - length xs / size) (xs ++ ys) in
    rw e at (rw s at h)

past_by : (a b limit c d room : ℕ) → a ≤ b → c ≤ d → (nat_lt limit a || nat_lt room c) ≡ true → (nat_lt limit b || nat_lt room d) ≡ true
past_by a b limit c d room h k is = grind (arith, nat_tests)

-- What is too long stays too long if bytes are added.
pub past_more : (size limit room : ℕ) (xs ys : List ℕ) → 0 < size → is_past size limit room xs ≡ true → is_past size limit room (xs ++ ys) ≡ true
unfolding is_past
past_more size limit room xs ys some is =
    past_by (length xs) (length (xs ++ ys)) limit (size * held_blocks size xs) (size * held_blocks size (xs ++ ys)) room
    (omega (arith, length-append xs ys)) (mul-le-mul_left size (held_grows size xs ys some)) is

-- If the held blocks take more than the room, the bytes are too many.
pub past_room : (size limit room : ℕ) (xs : List ℕ) → room < size * held_blocks size xs → is_past size limit room xs ≡ true
unfolding is_past
past_room size limit room xs past = or_right (nat_lt limit (length xs)) (nat_lt room (size * held_blocks size xs)) (lt-ltb room (size * held_blocks size xs) past)
