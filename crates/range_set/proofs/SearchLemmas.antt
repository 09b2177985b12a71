use Rattle.std.proofs.Common.{◌≡◌, ℕ, ◌<◌, ◌≤◌, zero, suc, Bool, true, false, nat_le, ◌||◌, List, [], ◌∷◌, length, Option, None, Some, refl, ap, sym, ◌∙◌, arith}
use Rattle.std.specs.List.{slice_index_or, slice_get}
use Rattle.std.specs.List.Sorted.{IsNonDecreasingBy, IsPartitionedBy, IsPartitionPoint}
use Rattle.std.proofs.lemmas.List.Sorted.{IsPartitionedBy-leb}
use Rattle.std.proofs.lemmas.Bool.Decides.{nat_tests}
use Rattle.sym_edges.specs.Addresses.{Range}
use Rattle.range_set.specs.Members.{holds, holds_any}
use Rattle.range_set.specs.Canonical.{IsCanonical, BeginsAbove}
use Rattle.range_set.proofs.MemberLemmas.{above_none, above_not}

-- There is a range, and it starts at or below the address.
abbrev pub starts_by : ℕ → Option Range → Bool
starts_by a None = false
starts_by a (Some range) = nat_le range.start a

reached : (x : Range) (a : ℕ) (r : Bool) → a < x.end → r ≡ false → (holds x a || r) ≡ nat_le x.start a
reached x a r high none = rw none (grind (arith, nat_tests))

-- The first range that ends above the address decides.
pub first_decides : (xs : List Range) (a i : ℕ) → IsCanonical xs → ((k : ℕ) (d : Range) → k < i → (slice_index_or xs k d).end ≤ a) → ((k : ℕ) (d : Range) → i ≤ k → k < length xs → a < (slice_index_or xs k d).end) → starts_by a (slice_get xs i) ≡ holds_any xs a
first_decides [] a i canonical low high = refl
first_decides (x ∷ xs) a zero canonical low high =
    let reach : a < x.end = high 0 x (omega arith) (omega arith) in
    sym (reached x a (holds_any xs a) reach (above_none x.end xs a canonical.1 canonical.2 (omega arith)))
first_decides (x ∷ xs) a (suc i) canonical low high =
    first_decides xs a i canonical.2 (λ k d h. low (suc k) d (omega arith)) (λ k d h g. high (suc k) d (omega arith) (omega arith))
    ∙ sym (ap (λ b. b || holds_any xs a) (above_not x a (low 0 x (omega arith))))

ends_from : (e : ℕ) (xs : List Range) → BeginsAbove e xs → IsCanonical xs → (k : ℕ) (d : Range) → k < length xs → e ≤ (slice_index_or xs k d).end
ends_from e [] begins canonical k d h = absurd (omega arith)
ends_from e (x ∷ xs) begins canonical zero d h = omega arith
ends_from e (x ∷ xs) begins canonical (suc k) d h =
    (let after : x.end ≤ (slice_index_or xs k d).end = ends_from x.end xs canonical.1 canonical.2 k d (omega arith) in omega arith)

-- A canonical list is sorted by the ends of its ranges.
ends_rise : (xs : List Range) → IsCanonical xs → IsNonDecreasingBy (λ r. r.end) xs
ends_rise [] canonical i j d up h = absurd (omega arith)
ends_rise (x ∷ xs) canonical zero zero d up h = omega arith
ends_rise (x ∷ xs) canonical zero (suc j) d up h = ends_from x.end xs canonical.1 canonical.2 j d (omega arith)
ends_rise (x ∷ xs) canonical (suc i) zero d up h = absurd (omega arith)
ends_rise (x ∷ xs) canonical (suc i) (suc j) d up h = ends_rise xs canonical.2 i j d (omega arith) (omega arith)

-- The ranges of a canonical list that end at or below an address come first.
pub parted_by_end : (xs : List Range) (a : ℕ) → IsCanonical xs → IsPartitionedBy (λ r. nat_le r.end a) xs
parted_by_end xs a canonical = IsPartitionedBy-leb (λ r. r.end) xs a (ends_rise xs canonical)

-- The range at the partition point decides.
pub found : (xs : List Range) (a i : ℕ) → IsCanonical xs → IsPartitionPoint (λ r. nat_le r.end a ≡ true) (λ r. nat_le r.end a ≡ false) xs i → starts_by a (slice_get xs i) ≡ holds_any xs a
found xs a i canonical point =
    first_decides xs a i canonical
    (λ k d h. (let is : nat_le (slice_index_or xs k d).end a ≡ true = point.0 k d (omega arith) h in grind (arith, nat_tests)))
    (λ k d h g. (let is : nat_le (slice_index_or xs k d).end a ≡ false = point.1 k d h g in grind (arith, nat_tests)))

get_at : (xs : List Range) (i : ℕ) (x : Range) → i < length xs → x ≡ slice_index_or xs i x → slice_get xs i ≡ Some x
get_at [] i x within is = absurd (omega arith)
get_at (y ∷ xs) zero x within is = ap (λ r. Some r) (sym is)
get_at (y ∷ xs) (suc i) x within is = get_at xs i x (omega arith) is

get_past : (xs : List Range) (i : ℕ) → length xs ≤ i → slice_get xs i ≡ None
get_past [] i past = refl
get_past (y ∷ xs) zero past = absurd (omega arith)
get_past (y ∷ xs) (suc i) past = get_past xs i (omega arith)

-- The answer with the range at the partition point, and without one.
pub found_at : (xs : List Range) (a i : ℕ) (x : Range) → starts_by a (slice_get xs i) ≡ holds_any xs a → i < length xs → x ≡ slice_index_or xs i x → nat_le x.start a ≡ holds_any xs a
found_at xs a i x is within at = sym (ap (λ o. starts_by a o) (get_at xs i x within at)) ∙ is

pub found_none : (xs : List Range) (a i : ℕ) → starts_by a (slice_get xs i) ≡ holds_any xs a → length xs ≤ i → false ≡ holds_any xs a
found_none xs a i is past = sym (ap (λ o. starts_by a o) (get_past xs i past)) ∙ is
