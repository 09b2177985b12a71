-- The results of reading an unsigned LEB128, case by case.
use Rattle.std.proofs.Common.{lit<, ◌≡◌, ◌<◌, ◌≤◌, ◌+◌, ◌^◌, ℕ, List, length, drop, get_or, min, Option, Some, None, Ok, Err, sym, ap, subst, ◌∙◌, arith, ⊎_elim}
use Rattle.std.proofs.lemmas.Bool.{cases_lt}
use Rattle.std.proofs.lemmas.Bool.Decides.{nat_tests}
use Rattle.leb_cursor.specs.declared.fault.CursorFault.{CursorFault}
use Rattle.leb_cursor.specs.declared.fault.CursorFault.TheVariants.{Ends, LebLong}
use Rattle.leb_cursor.specs.Ahead.{Ahead, passed}
use Rattle.leb_cursor.specs.Readings.{leb_sum, leb_length, uleb_at, uleb_by}
use Rattle.leb_cursor.specs.internal.Groups.{SoFar, EndsWith}
use Rattle.leb_cursor.proofs.AheadLemmas.{moved, same_ahead}
use Rattle.leb_cursor.proofs.GroupLemmas.{leb_sum_one, leb_length_some, groups_fit}
use Rattle.leb_cursor.proofs.TenthLemmas.{ten_sum, ten_ends, open_short, open_long, sum_small}

uleb_is : (c : Ahead) (count : Option ℕ) → leb_length c.bytes ≡ count → uleb_at c ≡ uleb_by c count
unfolding uleb_at
uleb_is c count is = ap (uleb_by c) is

uleb_fits : (c : Ahead) (sum count : ℕ) → sum ≡ leb_sum count c.bytes → sum < 2 ^ 64 → uleb_by c (Some count) ≡ Ok (sum, passed count c)
uleb_fits c sum count is fits = grind (arith, nat_tests)

uleb_leaves : (c : Ahead) (count : ℕ) → 2 ^ 64 ≤ leb_sum count c.bytes → uleb_by c (Some count) ≡ Err (LebLong c.at)
uleb_leaves c count large = grind (arith, nat_tests)

pub uleb_ended : (c : Ahead) (sum count : ℕ) → EndsWith sum count c.bytes → uleb_at c ≡ Ok (sum, passed count c)
uleb_ended c sum count h =
    let fits : 128 ^ count ≤ 2 ^ 63 = groups_fit count h.few in
    let below : sum < 128 ^ count = h.below in
    uleb_is c (Some count) h.ended ∙ uleb_fits c sum count h.sum_is (omega arith)

pub uleb_short : (c : Ahead) (sum : ℕ) → SoFar sum (min 9 (length c.bytes)) c.bytes → length c.bytes < 10 → uleb_at c ≡ Err (Ends c.at)
uleb_short c sum h short =
    let e = open_short c sum h short in
    uleb_is c None e.0 ∙ ap Err e.1

-- A tenth byte of 0 adds nothing.
pub uleb_zero : (c : Ahead) (sum : ℕ) → SoFar sum (min 9 (length c.bytes)) c.bytes → 10 ≤ length c.bytes → get_or c.bytes 9 0 ≡ 0 → uleb_at c ≡ Ok (sum, passed 10 c)
uleb_zero c sum h enough is =
    let total = ten_sum c sum h enough in
    let small : sum < 2 ^ 63 = sum_small c sum h enough in
    uleb_is c (Some 10) (ten_ends c sum h enough (omega arith)) ∙ uleb_fits c sum 10 (omega arith) (omega arith)

-- A tenth byte of 1 adds 2^63.
pub uleb_one : (c : Ahead) (sum : ℕ) → SoFar sum (min 9 (length c.bytes)) c.bytes → 10 ≤ length c.bytes → get_or c.bytes 9 0 ≡ 1 → uleb_at c ≡ Ok (sum + 2 ^ 63, passed 10 c)
uleb_one c sum h enough is =
    let total = ten_sum c sum h enough in
    let small : sum < 2 ^ 63 = sum_small c sum h enough in
    uleb_is c (Some 10) (ten_ends c sum h enough (omega arith)) ∙ uleb_fits c (sum + 2 ^ 63) 10 (omega arith) (omega arith)

-- Any other tenth byte makes the number too long.
pub uleb_long : (c : Ahead) (sum : ℕ) → SoFar sum (min 9 (length c.bytes)) c.bytes → 10 ≤ length c.bytes → 1 < get_or c.bytes 9 0 → uleb_at c ≡ Err (LebLong c.at)
uleb_long c sum h enough more =
    ⊎_elim
    (λ ends.
    let total = ten_sum c sum h enough in
    uleb_is c (Some 10) (ten_ends c sum h enough ends) ∙ uleb_leaves c 10 (omega arith))
    (λ going.
    let e = open_long c sum h enough going in
    uleb_is c None e.0 ∙ ap Err e.1)
    (cases_lt (get_or c.bytes 9 0) 128)

-- A first byte without bit 7 is the number.
pub uleb_first : (place byte : ℕ) (bytes rest : List ℕ) (c : Ahead) → record { bytes = drop place bytes; at = place } ≡ c → rest ≡ c.bytes → 0 < length rest → byte ≡ get_or rest 0 0 → byte < 128 → uleb_at c ≡ Ok (byte, record { bytes = drop (place + 1) bytes; at = place + 1 })
uleb_first place byte bytes rest c is same some first small =
    let front : byte ≡ get_or c.bytes 0 0 = first ∙ ap (λ (r : List ℕ). get_or r 0 0) same in
    let there : 0 < length c.bytes = subst (λ (r : List ℕ). 0 < length r) same some in
    let ends = leb_length_some 0 c.bytes (lit< tt) there (λ j below. absurd (omega arith)) (omega arith) in
    let sum : byte ≡ leb_sum 1 c.bytes = sym (leb_sum_one c.bytes byte front small) in
    uleb_is c (Some 1) ends ∙ uleb_fits c byte 1 sum (omega arith) ∙ ap (λ (d : Ahead). Ok (byte, d)) (moved 1 place bytes c is)

-- The value that is read from the front of the rest of the bytes is the value that the cursor
-- reads.
pub uleb_moved : (place sum count : ℕ) (bytes rest : List ℕ) (c : Ahead) → record { bytes = drop place bytes; at = place } ≡ c → rest ≡ c.bytes → Ok (sum, passed count (record { bytes = rest; at = place })) ≡ uleb_at (record { bytes = rest; at = place }) → uleb_at c ≡ Ok (sum, record { bytes = drop (place + count) bytes; at = place + count })
uleb_moved place sum count bytes rest c is same read =
    let front : record { bytes = rest; at = place } ≡ c = same_ahead place bytes rest c is same in
    sym (ap uleb_at front) ∙ sym read ∙ ap (λ (d : Ahead). Ok (sum, passed count d)) front ∙ ap (λ (d : Ahead). Ok (sum, d)) (moved count place bytes c is)

pub uleb_refused : (place : ℕ) (fault : CursorFault) (bytes rest : List ℕ) (c : Ahead) → record { bytes = drop place bytes; at = place } ≡ c → rest ≡ c.bytes → Err fault ≡ uleb_at (record { bytes = rest; at = place }) → uleb_at c ≡ Err fault
uleb_refused place fault bytes rest c is same read =
    let front : record { bytes = rest; at = place } ≡ c = same_ahead place bytes rest c is same in
    sym (ap uleb_at front) ∙ sym read
