use Rattle.std.proofs.Common.{◌≡◌, ℕ, ◌<◌, ◌≤◌, nat_le, suc, Bool, true, false, ◌||◌, List, [], ◌∷◌, length, refl, sym, ap, ◌∙◌, arith, Result, Ok, Err, IfOk}
use Rattle.std.proofs.Math.Bool.{or_assoc, or-false}
use Rattle.std.specs.List.{list_any, slice_index_or, IsAllAdjacentAnswer}
use Rattle.std.specs.List.Sorted.{IsPermutation, IsNonDecreasingBy}
use Rattle.std.proofs.lemmas.Bool.Decides.{nat_tests}
use Rattle.std.proofs.lemmas.List.Sorted.{list_any-IsPermutation, IsNonDecreasingBy-from_all_adjacent}
use Rattle.sym_edges.specs.Addresses.{Range}
use Rattle.range_set.specs.Members.{holds, holds_any}
use Rattle.range_set.specs.Canonical.{IsCanonical, BeginsAbove}
use Rattle.range_set.specs.Starts.{AllFrom}
use Rattle.range_set.specs.Building.{last_start, AreAscending, StartsBefore}
use Rattle.range_set.proofs.MemberLemmas.{none_held}

-- `holds_any` as the standard function `list_any`.
holds_any_is : (xs : List Range) (a : ℕ) → holds_any xs a ≡ list_any (λ r. holds r a) xs
holds_any_is [] a = refl
holds_any_is (x ∷ xs) a = ap (λ b. holds x a || b) (holds_any_is xs a)

-- A permutation of a list holds the same addresses.
pub permuted_members : (xs ys : List Range) (a : ℕ) → IsPermutation xs ys → holds_any ys a ≡ holds_any xs a
permuted_members xs ys a p = holds_any_is ys a ∙ sym (list_any-IsPermutation (λ r. holds r a) xs ys p) ∙ sym (holds_any_is xs a)

from_each : (s : ℕ) (xs : List Range) → ((k : ℕ) (d : Range) → k < length xs → s ≤ (slice_index_or xs k d).start) → AllFrom s xs
from_each s [] h = tt
from_each s (x ∷ xs) h = (h 0 x (omega arith), from_each s xs (λ k d low. h (suc k) d (omega arith)))

pub ascending_sorted : (xs : List Range) → IsNonDecreasingBy (λ r. r.start) xs → AreAscending xs
ascending_sorted [] h = tt
ascending_sorted (x ∷ xs) h = (
  from_each x.start xs (λ k d low. h 0 (suc k) d (omega arith) (omega arith)),
  ascending_sorted xs (λ i j d up low. h (suc i) (suc j) d (omega arith) (omega arith)),
)

le_of : (a b : ℕ) → true ≡ nat_le a b → a ≤ b
le_of a b h = grind (arith, nat_tests)

-- A list ascends if the test of all neighbours succeeds.
pub ascending_found : (xs : List Range) (found : Bool) → IsAllAdjacentAnswer (λ x y b. b ≡ nat_le x.start y.start) xs found → found ≡ true → AreAscending xs
ascending_found xs true h is = ascending_sorted xs (IsNonDecreasingBy-from_all_adjacent (λ r. r.start) xs (λ k d low. le_of _ _ (h k d low)))
ascending_found xs false h is = absurd cc

pub from_lower : (s t : ℕ) (xs : List Range) → AllFrom t xs → s ≤ t → AllFrom s xs
from_lower s t [] all low = tt
from_lower s t (x ∷ xs) all low = (omega arith, from_lower s t xs all.1 low)

-- All ranges of a canonical list that begins above an address start above it.
pub from_canonical : (e : ℕ) (xs : List Range) → BeginsAbove e xs → IsCanonical xs → AllFrom e xs
from_canonical e [] begins canonical = tt
from_canonical e (x ∷ xs) begins canonical = (omega arith, from_lower e x.end xs (from_canonical x.end xs canonical.1 canonical.2) (omega arith))

-- A canonical list ascends.
pub ascending_canonical : (xs : List Range) → IsCanonical xs → AreAscending xs
ascending_canonical [] canonical = tt
ascending_canonical (x ∷ xs) canonical =
    (from_lower x.start x.end xs (from_canonical x.end xs canonical.1 canonical.2) (omega arith), ascending_canonical xs canonical.2)

-- The invariant of `push_all`: the built ranges and those that are left hold what the old ranges
-- and the list hold.
pub record Pushes (old all built rest : List Range) : Type 0 where
  pub ascending : AreAscending rest
  pub before : StartsBefore built rest
  pub members : (a : ℕ) → (holds_any built a || holds_any rest a) ≡ (holds_any old a || holds_any all a)

-- The step of `push_all`.
pub pushes_step : (old all built after : List Range) (x : Range) (xs : List Range) → Pushes old all built (x ∷ xs) → ((a : ℕ) → holds_any after a ≡ (holds_any built a || holds x a)) → last_start after ≤ x.start → Pushes old all after xs
pushes_step old all built after x xs m members order = record {
  ascending = m.ascending.1;
  before = from_lower (last_start after) x.start xs m.ascending.0 order;
  members = λ a. ap (λ b. b || holds_any xs a) (members a) ∙ or_assoc (holds_any built a) (holds x a) (holds_any xs a) ∙ m.members a;
}

-- The invariant of `push_merged`: the built ranges and those that are left of both lists hold what
-- the two lists hold.
pub record Joins (left right built xs ys : List Range) : Type 0 where
  pub first : IsCanonical xs
  pub second : IsCanonical ys
  pub before : StartsBefore built xs
  pub early : StartsBefore built ys
  pub members : (a : ℕ) → (holds_any built a || (holds_any xs a || holds_any ys a)) ≡ (holds_any left a || holds_any right a)

second_goes : (p q r : Bool) → (q || (p || r)) ≡ (p || (q || r))
second_goes true true r = refl
second_goes true false r = refl
second_goes false q r = refl

-- The step of `push_merged` if the first list's next range starts first.
pub joins_first : (left right built after : List Range) (x y : Range) (xs ys : List Range) → Joins left right built (x ∷ xs) (y ∷ ys) → x.start ≤ y.start → ((a : ℕ) → holds_any after a ≡ (holds_any built a || holds x a)) → last_start after ≤ x.start → Joins left right after xs (y ∷ ys)
joins_first left right built after x y xs ys m low members order = record {
  first = m.first.2;
  second = m.second;
  before = from_lower (last_start after) x.start xs (ascending_canonical (x ∷ xs) m.first).0 order;
  early = (omega arith, from_lower (last_start after) y.start ys (ascending_canonical (y ∷ ys) m.second).0 (omega arith));
  members = λ a.
      ap (λ b. b || (holds_any xs a || holds_any (y ∷ ys) a)) (members a)
      ∙ or_assoc (holds_any built a) (holds x a) (holds_any xs a || holds_any (y ∷ ys) a)
      ∙ ap (λ b. holds_any built a || b) (sym (or_assoc (holds x a) (holds_any xs a) (holds_any (y ∷ ys) a)))
      ∙ m.members a;
}

-- The step of `push_merged` if the second list's next range starts first.
pub joins_second : (left right built after : List Range) (x y : Range) (xs ys : List Range) → Joins left right built (x ∷ xs) (y ∷ ys) → y.start < x.start → ((a : ℕ) → holds_any after a ≡ (holds_any built a || holds y a)) → last_start after ≤ y.start → Joins left right after (x ∷ xs) ys
joins_second left right built after x y xs ys m low members order = record {
  first = m.first;
  second = m.second.2;
  before = (omega arith, from_lower (last_start after) x.start xs (ascending_canonical (x ∷ xs) m.first).0 (omega arith));
  early = from_lower (last_start after) y.start ys (ascending_canonical (y ∷ ys) m.second).0 order;
  members = λ a.
      ap (λ b. b || (holds_any (x ∷ xs) a || holds_any ys a)) (members a)
      ∙ or_assoc (holds_any built a) (holds y a) (holds_any (x ∷ xs) a || holds_any ys a)
      ∙ ap (λ b. holds_any built a || b) (second_goes (holds_any (x ∷ xs) a) (holds y a) (holds_any ys a))
      ∙ m.members a;
}

pub from_zero : (xs : List Range) → AllFrom 0 xs
from_zero [] = tt
from_zero (x ∷ xs) = (omega arith, from_zero xs)

-- The end of `push_merged`: one of the lists has ended.
pub joins_end : (left right built xs ys : List Range) → Joins left right built xs ys → length ys ≡ 0 → (a : ℕ) → (holds_any built a || holds_any xs a) ≡ (holds_any left a || holds_any right a)
joins_end left right built xs ys m none a =
    sym (ap (λ b. holds_any built a || b) (or-false (holds_any xs a)))
    ∙ ap (λ b. holds_any built a || (holds_any xs a || b)) (sym (none_held ys a none))
    ∙ m.members a

-- A set made from a permutation of a list has the addresses of the list.
pub members_permuted : {E : Type 0} (result : Result (List Range) E) (xs ys : List Range) → IsPermutation xs ys → IfOk result (λ set. (a : ℕ) → holds_any set a ≡ holds_any ys a) → IfOk result (λ set. (a : ℕ) → holds_any set a ≡ holds_any xs a)
members_permuted (Ok set) xs ys p is = λ a. is a ∙ permuted_members xs ys a p
members_permuted (Err e) xs ys p is = tt

-- The invariant of `are_apart`: the list is canonical if what is left of it is canonical and begins
-- above `end`.
pub record Apart (all : List Range) (end : ℕ) (rest : List Range) : Type 0 where
  pub whole : BeginsAbove end rest → IsCanonical rest → IsCanonical all

pub apart_first : (x : Range) (xs : List Range) → x.start < x.end → Apart (x ∷ xs) x.end xs
apart_first x xs some = record { whole = λ begins canonical. (some, begins, canonical) }

pub apart_more : (all : List Range) (end : ℕ) (x : Range) (xs : List Range) → Apart all end (x ∷ xs) → end < x.start → x.start < x.end → Apart all x.end xs
apart_more all end x xs a above some = record { whole = λ begins canonical. a.whole above (some, begins, canonical) }

pub apart_end : (all : List Range) (end : ℕ) → Apart all end [] → IsCanonical all
apart_end all end a = a.whole tt tt
