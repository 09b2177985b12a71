-- Stretches that do not overlap give the same map in any order.
use Rattle.std.proofs.Common.{◌≡◌, ℕ, zero, suc, ◌+◌, ◌^◌, ◌<◌, ◌≤◌, nat_lt, Bool, true, false, if◌then◌else◌, List, [], ◌∷◌, Option, None, Some, arith, refl, sym, ap, ◌∙◌}
use Rattle.std.specs.List.{AllByRecursion, sum_by}
use Rattle.std.specs.List.Sorted.{IsPermutation}
use Rattle.std.proofs.lemmas.Bool.Decides.{nat_tests}
use Rattle.std.proofs.lemmas.List.Elements.{All-from_recursion, recursion_from_All}
use Rattle.std.proofs.lemmas.List.Recursion.{is_sum_by}
use Rattle.std.proofs.lemmas.List.Sorted.{All-permutation, sum_by-IsPermutation}
use Rattle.step_maps.specs.declared.stretch.Stretch.{Stretch}
use Rattle.step_maps.specs.declared.stretch.FirstItem.{FirstItem}
use Rattle.step_maps.specs.Stepping.{Stepping, value_at}
use Rattle.step_maps.specs.Covers.{reaches, AreStretches}
use Rattle.step_maps.specs.Overlays.{over}
use Rattle.step_maps.specs.internal.Laying.{laid, ascends, ascends_from}
use Rattle.step_maps.proofs.LayingLemmas.{and_left, and_right, alone}

abbrev IsStretch : Stretch → Type 0
IsStretch s = s.first ≤ s.last

all_some : (items : List Stretch) → AreStretches items → AllByRecursion IsStretch items
all_some [] some = tt
all_some (s ∷ items) some = (some.0, all_some items some.1)

some_all : (items : List Stretch) → AllByRecursion IsStretch items → AreStretches items
some_all [] some = tt
some_all (s ∷ items) some = (some.0, some_all items some.1)

pub stretches_moved : (items sorted : List Stretch) → IsPermutation items sorted → AreStretches items → AreStretches sorted
stretches_moved items sorted moved some = some_all sorted (recursion_from_All IsStretch sorted (All-permutation IsStretch items sorted moved (All-from_recursion IsStretch items (all_some items some))))

-- The sum of a number over all stretches that contain an address.
abbrev total : (Stretch → ℕ) → ℕ → List Stretch → ℕ
total f a [] = 0
total f a (s ∷ items) = if reaches s a then f s + total f a items else total f a items

either : (b : Bool) (m n : ℕ) → (if b then m + n else n) ≡ (if b then m else 0) + n
either true m n = refl
either false m n = omega arith

total_moved : (f : Stretch → ℕ) (a : ℕ) (items sorted : List Stretch) → IsPermutation items sorted → total f a sorted ≡ total f a items
total_moved f a items sorted moved =
    let own : Stretch → ℕ = λ s. if reaches s a then f s else 0 in
    let is : (xs : List Stretch) → total f a xs ≡ sum_by own xs = is_sum_by (total f a) own refl (λ s xs. either (reaches s a) (f s) (total f a xs)) in
    is sorted ∙ sum_by-IsPermutation own items sorted moved ∙ sym (is items)

abbrev count : ℕ → List Stretch → ℕ
count a items = total (λ s. 1) a items

none_there : (f : Stretch → ℕ) (a : ℕ) (items : List Stretch) → count a items ≡ 0 → total f a items ≡ 0
none_there f a [] none = refl
none_there f a (s ∷ items) none = go (reaches s a) (none_there f a items) none
  where
    go : (b : Bool) → (count a items ≡ 0 → total f a items ≡ 0) → (if b then 1 + count a items else count a items) ≡ 0 → (if b then f s + total f a items else total f a items) ≡ 0
    go true later is = absurd (omega (arith, is))
    go false later is = later is

-- The item that is laid at an address that at most one stretch contains, given by sums that do not
-- depend on the order.
abbrev only : ℕ → ℕ → ℕ → Option FirstItem
only zero index class = None
only (suc n) index class = Some (record { index = index; class = class; shared = false })

only_one : (index class n x y : ℕ) → n ≡ 0 → x ≡ 0 → y ≡ 0 → Some (record { index = index; class = class; shared = false }) ≡ only (1 + n) (index + x) (class + y)
only_one index class n x y none no_x no_y =
    let same : index ≡ index + x = omega (arith, no_x) in
    let alike : class ≡ class + y = omega (arith, no_y) in
    rw none (λ i. only 1 (same i) (alike i))

abbrev only_there : ℕ → List Stretch → Option FirstItem
only_there a items = only (count a items) (total (λ s. s.index) a items) (total (λ s. s.class) a items)

laid_only : (a : ℕ) (items : List Stretch) → count a items ≤ 1 → laid items a ≡ only_there a items
unfolding laid
laid_only a [] few = refl
laid_only a (s ∷ items) few = go (reaches s a) (laid_only a items) few
  where
    go : (b : Bool) → (count a items ≤ 1 → laid items a ≡ only_there a items) → (if b then 1 + count a items else count a items) ≤ 1
        → over (if b then Some (alone s) else None) (laid items a)
        ≡ only (if b then 1 + count a items else count a items) (if b then s.index + total (λ t. t.index) a items else total (λ t. t.index) a items) (if b then s.class + total (λ t. t.class) a items else total (λ t. t.class) a items)
    go true later few =
        let none : count a items ≡ 0 = omega (arith, few) in
        ap (λ o. over (Some (alone s)) o) (later (omega (arith, few)) ∙ ap (λ n. only n (total (λ t. t.index) a items) (total (λ t. t.class) a items)) none)
        ∙ only_one s.index s.class _ _ _ none (none_there (λ t. t.index) a items none) (none_there (λ t. t.class) a items none)
    go false later few = later few

-- Of stretches that ascend at most one contains an address.
none_behind : (last a : ℕ) (items : List Stretch) → AreStretches items → ascends_from last items ≡ true → a ≤ last → count a items ≡ 0
none_behind last a [] some up low = refl
none_behind last a (s ∷ items) some up low =
    let is : nat_lt last s.first ≡ true = and_left _ _ up in
    let above : last < s.first = grind (arith, nat_tests, is) in
    let out : reaches s a ≡ false = grind (arith, nat_tests, above, low) in
    ap (λ (b : Bool). if b then 1 + count a items else count a items) out ∙ none_behind s.last a items some.1 (and_right _ _ up) (omega (arith, above, low, some.0))

ascends_rest : (last : ℕ) (items : List Stretch) → ascends_from last items ≡ true → ascends items ≡ true
ascends_rest last [] up = refl
ascends_rest last (s ∷ items) up = and_right _ _ up

few_up : (a : ℕ) (items : List Stretch) → AreStretches items → ascends items ≡ true → count a items ≤ 1
few_up a [] some up = omega arith
few_up a (s ∷ items) some up = go (reaches s a) refl (few_up a items some.1 (ascends_rest s.last items up))
  where
    go : (b : Bool) → reaches s a ≡ b → count a items ≤ 1 → (if b then 1 + count a items else count a items) ≤ 1
    go true here later = omega (arith, none_behind s.last a items some.1 up (grind (arith, nat_tests, here)))
    go false here later = later

laid_moved : (items sorted : List Stretch) (a : ℕ) → AreStretches sorted → ascends sorted ≡ true → IsPermutation items sorted → laid sorted a ≡ laid items a
laid_moved items sorted a some up moved =
    let few : count a sorted ≤ 1 = few_up a sorted some up in
    let same : count a sorted ≡ count a items = total_moved (λ s. 1) a items sorted moved in
    laid_only a sorted few
    ∙ rw (same, total_moved (λ s. s.index) a items sorted moved, total_moved (λ s. s.class) a items sorted moved) refl
    ∙ sym (laid_only a items (omega (arith, few, same)))

pub sorted_laid : (items sorted : List Stretch) (steps : Stepping (Option FirstItem)) → IsPermutation items sorted → AreStretches items → ascends sorted ≡ true → ((a : ℕ) → a < 2 ^ 64 → value_at None steps a ≡ laid sorted a) → (a : ℕ) → a < 2 ^ 64 → value_at None steps a ≡ laid items a
sorted_laid items sorted steps moved some up by a fits = by a fits ∙ laid_moved items sorted a (stretches_moved items sorted moved some) up moved
