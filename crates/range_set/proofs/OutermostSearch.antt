use Rattle.std.proofs.Common.{◌≡◌, ℕ, zero, suc, ◌<◌, ◌≤◌, true, false, nat_le, ◌||◌, List, [], ◌∷◌, length, Bool, refl, sym, arith}
use Rattle.std.specs.List.{slice_index_or}
use Rattle.std.specs.List.Sorted.{IsNonDecreasingBy, IsPartitionedBy, IsPartitionPoint}
use Rattle.std.proofs.lemmas.List.Sorted.{IsPartitionedBy-leb}
use Rattle.std.proofs.lemmas.Bool.Decides.{nat_tests}
use Rattle.sym_edges.specs.Addresses.{Range}
use Rattle.range_set.specs.Starts.{AllFrom}
use Rattle.range_set.specs.Enclosing.{encloses}
use Rattle.range_set.specs.Building.{AllReach, AreRising}
use Rattle.range_set.proofs.EnclosingLemmas.{has_both}

from_at : (s : ℕ) (xs : List Range) → AllFrom s xs → (k : ℕ) (d : Range) → k < length xs → s ≤ (slice_index_or xs k d).start
from_at s [] all k d h = absurd (omega arith)
from_at s (x ∷ xs) all zero d h = all.0
from_at s (x ∷ xs) all (suc k) d h = from_at s xs all.1 k d (omega arith)

reach_at : (e : ℕ) (xs : List Range) → AllReach e xs → (k : ℕ) (d : Range) → k < length xs → e ≤ (slice_index_or xs k d).end
reach_at e [] all k d h = absurd (omega arith)
reach_at e (x ∷ xs) all zero d h = all.0
reach_at e (x ∷ xs) all (suc k) d h = reach_at e xs all.1 k d (omega arith)

starts_rise : (xs : List Range) → AreRising xs → IsNonDecreasingBy (λ r. r.start) xs
starts_rise [] rising i j d up h = absurd (omega arith)
starts_rise (x ∷ xs) rising zero zero d up h = omega arith
starts_rise (x ∷ xs) rising zero (suc j) d up h = from_at x.start xs rising.0 j d (omega arith)
starts_rise (x ∷ xs) rising (suc i) zero d up h = absurd (omega arith)
starts_rise (x ∷ xs) rising (suc i) (suc j) d up h = starts_rise xs rising.2 i j d (omega arith) (omega arith)

-- In a rising list the ranges that start at or below an address come first.
pub parted_by_start : (xs : List Range) (a : ℕ) → AreRising xs → IsPartitionedBy (λ r. nat_le r.start a) xs
parted_by_start xs a rising = IsPartitionedBy-leb (λ r. r.start) xs a (starts_rise xs rising)

starts_above : (x : Range) (start end : ℕ) (r : Bool) → start < x.start → r ≡ false → (has_both start end x || r) ≡ false
starts_above x start end r above none = rw none (grind (arith, nat_tests))

first_only : (x : Range) (start end : ℕ) (r : Bool) → x.start ≤ start → r ≡ false → (has_both start end x || r) ≡ nat_le end x.end
first_only x start end r low none = rw none (grind (arith, nat_tests))

later_decides : (x : Range) (start end far : ℕ) (r : Bool) → x.end ≤ far → r ≡ nat_le end far → (has_both start end x || r) ≡ nat_le end far
later_decides x start end far r near is = rw is (grind (arith, nat_tests))

-- Ranges that all start above `start` do not enclose it.
none_by : (xs : List Range) (start end : ℕ) → ((k : ℕ) (d : Range) → k < length xs → start < (slice_index_or xs k d).start) → encloses xs start end ≡ false
unfolding encloses
none_by [] start end high = refl
none_by (x ∷ xs) start end high = starts_above x start end (encloses xs start end) (high 0 x (omega arith)) (none_by xs start end (λ k d h. high (suc k) d (omega arith)))

-- The last range that starts at or below `start` decides.
last_decides : (xs : List Range) (start end i : ℕ) (e : Range) → AreRising xs → i < length xs → ((k : ℕ) (d : Range) → k ≤ i → (slice_index_or xs k d).start ≤ start) → ((k : ℕ) (d : Range) → i < k → k < length xs → start < (slice_index_or xs k d).start) → encloses xs start end ≡ nat_le end (slice_index_or xs i e).end
unfolding encloses
last_decides [] start end i e rising within low high = absurd (omega arith)
last_decides (x ∷ xs) start end zero e rising within low high =
    first_only x start end (encloses xs start end) (low 0 x (omega arith)) (none_by xs start end (λ k d h. high (suc k) d (omega arith) (omega arith)))
last_decides (x ∷ xs) start end (suc i) e rising within low high =
    later_decides x start end (slice_index_or xs i e).end (encloses xs start end) (reach_at x.end xs rising.1 i e (omega arith))
    (last_decides xs start end i e rising.2 (omega arith) (λ k d h. low (suc k) d (omega arith)) (λ k d h g. high (suc k) d (omega arith) (omega arith)))

-- The answer if no range starts at or below `start`.
pub found_none : (xs : List Range) (start end n : ℕ) → IsPartitionPoint (λ r. nat_le r.start start ≡ true) (λ r. nat_le r.start start ≡ false) xs n → n ≡ 0 → false ≡ encloses xs start end
found_none xs start end n point none =
    sym (none_by xs start end (λ k d h. (let is : nat_le (slice_index_or xs k d).start start ≡ false = point.1 k d (omega arith) h in grind (arith, nat_tests))))

-- The answer of the last range that starts at or below `start`.
pub found_last : (xs : List Range) (start end n i : ℕ) (e : Range) → AreRising xs → IsPartitionPoint (λ r. nat_le r.start start ≡ true) (λ r. nat_le r.start start ≡ false) xs n → n ≡ suc i → n ≤ length xs → nat_le end (slice_index_or xs i e).end ≡ encloses xs start end
found_last xs start end n i e rising point is within =
    sym (last_decides xs start end i e rising (omega arith)
    (λ k d h. (let is : nat_le (slice_index_or xs k d).start start ≡ true = point.0 k d (omega arith) (omega arith) in grind (arith, nat_tests)))
    (λ k d h g. (let is : nat_le (slice_index_or xs k d).start start ≡ false = point.1 k d (omega arith) g in grind (arith, nat_tests))))
