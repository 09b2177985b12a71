-- If none of the first nine bytes ends a LEB128, the tenth byte decides its result.
use Rattle.std.proofs.Common.{lit<, ◌≡◌, ◌<◌, ◌≤◌, ◌+◌, ◌*◌, ◌^◌, ◌%◌, ℕ, length, get_or, min, Some, None, subst, arith, below_more}
use Rattle.std.proofs.lemmas.Bool.Decides.{nat_tests}
use Rattle.leb_cursor.specs.declared.fault.CursorFault.TheVariants.{Ends, LebLong}
use Rattle.leb_cursor.specs.Ahead.{Ahead}
use Rattle.leb_cursor.specs.Readings.{leb_sum, leb_length, leb_open}
use Rattle.leb_cursor.specs.internal.Groups.{SoFar}
use Rattle.leb_cursor.proofs.GroupLemmas.{leb_sum_more, leb_length_some, leb_length_none}

-- The sum of ten groups is the sum of nine and the tenth group.
pub ten_sum : (c : Ahead) (sum : ℕ) → SoFar sum (min 9 (length c.bytes)) c.bytes → 10 ≤ length c.bytes → leb_sum 10 c.bytes ≡ sum + get_or c.bytes 9 0 % 128 * 2 ^ 63
ten_sum c sum h enough =
    let nine : min 9 (length c.bytes) ≡ 9 = omega arith in
    let so_far : SoFar sum 9 c.bytes = subst (λ (n : ℕ). SoFar sum n c.bytes) nine h in
    rw so_far.sum_is (leb_sum_more 9 c.bytes)

ten_each : (c : Ahead) (sum : ℕ) → SoFar sum (min 9 (length c.bytes)) c.bytes → 10 ≤ length c.bytes → (j : ℕ) → j < 9 → 128 ≤ get_or c.bytes j 0
ten_each c sum h enough j below = h.each j (omega arith)

-- A tenth byte without bit 7 ends the number.
pub ten_ends : (c : Ahead) (sum : ℕ) → SoFar sum (min 9 (length c.bytes)) c.bytes → 10 ≤ length c.bytes → get_or c.bytes 9 0 < 128 → leb_length c.bytes ≡ Some 10
ten_ends c sum h enough ends =
    leb_length_some 9 c.bytes (lit< tt) (omega arith) (ten_each c sum h enough) ends

-- If there are fewer than ten bytes, and all have bit 7, the fault is `Ends`.
pub open_short : (c : Ahead) (sum : ℕ) → SoFar sum (min 9 (length c.bytes)) c.bytes → length c.bytes < 10 → (leb_length c.bytes ≡ None) × (leb_open c ≡ Ends c.at)
unfolding leb_open
open_short c sum h short = (leb_length_none c.bytes (λ j below. h.each j (omega arith)), grind (arith, nat_tests))

-- If the tenth byte has bit 7 too, the fault is `LebLong`.
pub open_long : (c : Ahead) (sum : ℕ) → SoFar sum (min 9 (length c.bytes)) c.bytes → 10 ≤ length c.bytes → 128 ≤ get_or c.bytes 9 0 → (leb_length c.bytes ≡ None) × (leb_open c ≡ LebLong c.at)
unfolding leb_open
open_long c sum h enough going =
    let each : (j : ℕ) → j < 9 + 1 → 128 ≤ get_or c.bytes j 0 = below_more _ _ (ten_each c sum h enough) going in
    (leb_length_none c.bytes (λ j below. each j (omega arith)), grind (arith, nat_tests))

pub sum_small : (c : Ahead) (sum : ℕ) → SoFar sum (min 9 (length c.bytes)) c.bytes → 10 ≤ length c.bytes → sum < 2 ^ 63
sum_small c sum h enough =
    let nine : min 9 (length c.bytes) ≡ 9 = omega arith in
    let so_far : SoFar sum 9 c.bytes = subst (λ (n : ℕ). SoFar sum n c.bytes) nine h in
    so_far.below
