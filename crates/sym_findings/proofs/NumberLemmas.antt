-- Numbers in a list or a set, and those that records give.
use Rattle.std.proofs.Common.{◌≡◌, ℕ, suc, ◌<◌, ◌≤◌, ◌==◌, ◌||◌, not, Bool, true, false, List, [], ◌∷◌, length, get_or, Some, Result, Ok, Err, refl, ap, sym, ◌∙◌, inl, inr, arith, eq-eqb}
use Rattle.std.specs.List.{list_any, flat_map, slice_get}
use Rattle.std.specs.List.Sorted.{IsPermutation, IsSorted, IsNonDecreasing, IsBinarySearchResult}
use Rattle.std.specs.Ordering.{nat_cmp, match_ordering}
use Rattle.std.specs.declared.cmp.Ordering.TheVariants.{Less, Equal, Greater}
use Rattle.std.specs.BTreeMap.{is_at}
use Rattle.std.specs.BTreeSet.{insert_key}
use Rattle.std.specs.Cmp.{nat_cmp_is}
use Rattle.std.specs.Result.{is_ok}
use Rattle.std.proofs.Math.Bool.{or_comm}
use Rattle.std.proofs.lemmas.Bool.{cases_lt, cases_order, ne_eqb, or_from}
use Rattle.std.proofs.lemmas.Bool.Decides.{nat_tests}
use Rattle.std.proofs.lemmas.List.Sorted.{IsNonDecreasingBy-from_sort, list_any-IsPermutation, searched}
use Rattle.std.proofs.lemmas.List.Folds.{list_any_at}
use Rattle.std.proofs.lemmas.Option.{slice_get_within, get_or_from_slice_get}
use Rattle.sym_records.specs.declared.line.SymLine.{SymLine}
use Rattle.sym_records.specs.declared.line.SymLine.TheVariants.{File, Origin}
use Rattle.sym_meaning.specs.TextNames.{is_file, is_origin}
use Rattle.sym_findings.specs.internal.Numbers.{has_number, file_number, origin_number}

-- The numbers of a set.
at_is : (n m : ℕ) → is_at (nat_cmp n) m ≡ (m == n)
at_is n m = grind (arith, nat_tests)

any_is : (n : ℕ) (xs : List ℕ) → list_any (is_at (nat_cmp n)) xs ≡ has_number xs n
unfolding has_number
any_is n [] = refl
any_is n (x ∷ xs) = ap (λ t. t || list_any (is_at (nat_cmp n)) xs) (at_is n x) ∙ ap (λ t. (x == n) || t) (any_is n xs)

twice_not : (b : Bool) → not (not b) ≡ b
twice_not true = refl
twice_not false = refl

pub given_again : (n : ℕ) (keys : List ℕ) (added : Bool) → added ≡ not (list_any (is_at (nat_cmp n)) keys) → not added ≡ has_number keys n
given_again n keys added is = ap not is ∙ twice_not (list_any (is_at (nat_cmp n)) keys) ∙ any_is n keys

or_assoc_by : (a b c : Bool) → ((a || b) || c) ≡ (a || (b || c))
or_assoc_by true b c = refl
or_assoc_by false b c = refl

or_twice : (a b : Bool) → (a || b) ≡ ((a || b) || a)
or_twice true b = refl
or_twice false true = refl
or_twice false false = refl

more_by : (n m : ℕ) (keys : List ℕ) → list_any (λ k. k == m) (insert_key nat_cmp keys n) ≡ (list_any (λ k. k == m) keys || (n == m))
more_by n m [] = or_comm (n == m) false
more_by n m (x ∷ keys) =
    let any : List ℕ → Bool = λ ks. list_any (λ k. k == m) ks in
    elim (cases_order n x) [
      | inl same ↦
          ap (λ o. any (match_ordering o (n ∷ x ∷ keys) (x ∷ keys) (x ∷ insert_key nat_cmp keys n))) (sym (nat_cmp_is n x Equal same))
          ∙ or_twice (x == m) (any keys)
          ∙ ap (λ k. ((x == m) || any keys) || (k == m)) (sym same)
      | inr (inl less) ↦
          ap (λ o. any (match_ordering o (n ∷ x ∷ keys) (x ∷ keys) (x ∷ insert_key nat_cmp keys n))) (sym (nat_cmp_is n x Less less))
          ∙ or_comm (n == m) (any (x ∷ keys))
      | inr (inr more) ↦
          ap (λ o. any (match_ordering o (n ∷ x ∷ keys) (x ∷ keys) (x ∷ insert_key nat_cmp keys n))) (sym (nat_cmp_is n x Greater more))
          ∙ ap (λ t. (x == m) || t) (more_by n m keys)
          ∙ sym (or_assoc_by (x == m) (any keys) (n == m))
    ]

pub given_more : (n m : ℕ) (keys new : List ℕ) → new ≡ insert_key nat_cmp keys n → has_number new m ≡ (has_number keys m || (n == m))
unfolding has_number
given_more n m keys new e = ap (λ ks. list_any (λ k. k == m) ks) e ∙ more_by n m keys

-- The numbers in ascending order.
pub sorted_rise : (xs : List ℕ) → IsSorted nat_cmp xs → IsNonDecreasing xs
sorted_rise xs sorted = IsNonDecreasingBy-from_sort (λ x. x) xs sorted

pub sorted_same : (n : ℕ) (xs ys : List ℕ) → IsPermutation xs ys → has_number ys n ≡ has_number xs n
unfolding has_number
sorted_same n xs ys moves = sym (list_any-IsPermutation (λ m. m == n) xs ys moves)

-- A number that is at a place of a list is in the list.
pub stands_in : (xs : List ℕ) (place n : ℕ) → slice_get xs place ≡ Some n → has_number xs n ≡ true
unfolding has_number
stands_in xs place n is = list_any_at (λ m. m == n) xs place 0 (slice_get_within xs place n is) (eq-eqb (get_or xs place 0) n (get_or_from_slice_get xs place n 0 is))

-- The result of a binary search.
pub found_in : (xs : List ℕ) (n i : ℕ) → (i < length xs) × (get_or xs i 0 ≡ n) → has_number xs n ≡ true
unfolding has_number
found_in xs n i at = list_any_at (λ m. m == n) xs i 0 at.0 (eq-eqb (get_or xs i 0) n at.1)

other_by : (xs : List ℕ) (n i k : ℕ) → ((j : ℕ) → j < i → get_or xs j 0 < n) → ((j : ℕ) → i ≤ j → j < length xs → n < get_or xs j 0) → k < length xs → (get_or xs k 0 == n) ≡ false
other_by xs n i k below above there =
    elim (cases_lt k i) [
      | inl less ↦ let fact : get_or xs k 0 < n = below k less in ne_eqb (get_or xs k 0) n (λ same. absurd (omega (arith, fact, same)))
      | inr more ↦ let fact : n < get_or xs k 0 = above k more there in ne_eqb (get_or xs k 0) n (λ same. absurd (omega (arith, fact, same)))
    ]

none_at : (p : ℕ → Bool) (xs : List ℕ) → ((k : ℕ) → k < length xs → p (get_or xs k 0) ≡ false) → list_any p xs ≡ false
none_at p [] none = refl
none_at p (x ∷ xs) none = or_from (p x) (list_any p xs) (none 0 (omega arith)) (none_at p xs (λ k there. none (suc k) (omega (arith, there))))

pub not_in : (xs : List ℕ) (n i : ℕ) → (i ≤ length xs) × ((k : ℕ) → k < i → get_or xs k 0 < n) × ((k : ℕ) → i ≤ k → k < length xs → n < get_or xs k 0) → has_number xs n ≡ false
unfolding has_number
not_in xs n i at = none_at (λ m. m == n) xs (λ k there. other_by xs n i k at.1 at.2 there)

rises_at : (xs : List ℕ) → IsNonDecreasing xs → (i j : ℕ) → i ≤ j → j < length xs → get_or xs i 0 ≤ get_or xs j 0
rises_at xs rises i j order there = rises i j 0 order there

pub by_halves : (xs : List ℕ) (n : ℕ) (r : Result ℕ ℕ) → IsBinarySearchResult (λ y. nat_cmp y n) xs r → IsNonDecreasing xs → is_ok r ≡ has_number xs n
by_halves xs n (Ok i) search rises = sym (found_in xs n i (searched xs n (Ok i) search (rises_at xs rises)))
by_halves xs n (Err i) search rises = sym (not_in xs n i (searched xs n (Err i) search (rises_at xs rises)))

-- The numbers that records give.
pub files_given : (n : ℕ) (lines : List SymLine) → has_number (flat_map file_number lines) n ≡ list_any (is_file n) lines
unfolding has_number
files_given n [] = refl
files_given n (File number name ∷ lines) = ap (λ t. (number == n) || t) (files_given n lines)
files_given n (s ∷ lines) = files_given n lines

pub origins_given : (n : ℕ) (lines : List SymLine) → has_number (flat_map origin_number lines) n ≡ list_any (is_origin n) lines
unfolding has_number
origins_given n [] = refl
origins_given n (Origin number name ∷ lines) = ap (λ t. (number == n) || t) (origins_given n lines)
origins_given n (s ∷ lines) = origins_given n lines

pub files_known : (lines : List SymLine) (known numbers : List ℕ) → ((n : ℕ) → has_number known n ≡ has_number numbers n) → numbers ≡ flat_map file_number lines → (n : ℕ) → has_number known n ≡ list_any (is_file n) lines
files_known lines known numbers same is n = same n ∙ ap (λ xs. has_number xs n) is ∙ files_given n lines

pub origins_known : (lines : List SymLine) (known numbers : List ℕ) → ((n : ℕ) → has_number known n ≡ has_number numbers n) → numbers ≡ flat_map origin_number lines → (n : ℕ) → has_number known n ≡ list_any (is_origin n) lines
origins_known lines known numbers same is n = same n ∙ ap (λ xs. has_number xs n) is ∙ origins_given n lines
