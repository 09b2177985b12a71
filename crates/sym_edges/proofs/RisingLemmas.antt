-- In a list of numbers that rise, a later number is greater; so members whose numbers rise are
-- sorted by them.
use Rattle.std.proofs.Common.{◌≡◌, ◌<◌, ◌≤◌, ◌+◌, ℕ, zero, suc, true, false, eqb, ltb, List, [], ◌∷◌, map, length, get_or, sym, arith, ⊎_elim}
use Rattle.std.specs.List.Sorted.{IsNonDecreasingBy, IsPartitionPoint}
use Rattle.std.proofs.lemmas.Bool.{ne_eqb, ltb-true, ltb-false, cases_lt}
use Rattle.std.proofs.lemmas.List.{get_or-map, length-map}
use Rattle.sym_edges.specs.Rising.{RisesFrom, StandBelow}

pub rises_lower : (high low : ℕ) (xs : List ℕ) → low ≤ high → RisesFrom high xs → RisesFrom low xs
rises_lower high low [] le rises = tt
rises_lower high low (x ∷ xs) le rises = (let first : high ≤ x = rises.0 in omega arith, rises.1)

pub rises_above : (low : ℕ) (xs : List ℕ) → RisesFrom low xs → (k d : ℕ) → k < length xs → low ≤ get_or xs k d
rises_above low [] rises k d there = absurd (omega arith)
rises_above low (x ∷ xs) rises zero d there = rises.0
rises_above low (x ∷ xs) rises (suc k) d there =
    let later : x + 1 ≤ get_or xs k d = rises_above (x + 1) xs rises.1 k d (omega arith) in
    let first : low ≤ x = rises.0 in
    omega arith

pub rises_apart : (low : ℕ) (xs : List ℕ) → RisesFrom low xs → (i j d e : ℕ) → i < j → j < length xs → get_or xs i d < get_or xs j e
rises_apart low [] rises i j d e below there = absurd (omega arith)
rises_apart low (x ∷ xs) rises i zero d e below there = absurd (omega arith)
rises_apart low (x ∷ xs) rises zero (suc j) d e below there =
    let later : x + 1 ≤ get_or xs j e = rises_above (x + 1) xs rises.1 j e (omega arith) in
    omega arith
rises_apart low (x ∷ xs) rises (suc i) (suc j) d e below there = rises_apart (x + 1) xs rises.1 i j d e (omega arith) (omega arith)

rises_ordered : (low : ℕ) (xs : List ℕ) → RisesFrom low xs → (i j d e : ℕ) → i ≤ j → j < length xs → get_or xs i d ≤ get_or xs j e
rises_ordered low [] rises i j d e order there = absurd (omega arith)
rises_ordered low (x ∷ xs) rises zero zero d e order there = omega arith
rises_ordered low (x ∷ xs) rises zero (suc j) d e order there =
    let later : x + 1 ≤ get_or xs j e = rises_above (x + 1) xs rises.1 j e (omega arith) in
    omega arith
rises_ordered low (x ∷ xs) rises (suc i) zero d e order there = absurd (omega arith)
rises_ordered low (x ∷ xs) rises (suc i) (suc j) d e order there = rises_ordered (x + 1) xs rises.1 i j d e (omega arith) (omega arith)

pub rises_sorted : (low : ℕ) (xs : List ℕ) → RisesFrom low xs → IsNonDecreasingBy (λ x. x) xs
rises_sorted low xs rises i j d order there = rises_ordered low xs rises i j d d order there

-- The number of a member does not depend on the default.
number_at : {X : Type 0} (number : X → ℕ) (xs : List X) (k : ℕ) (d : X) → k < length xs → number (get_or xs k d) ≡ get_or (map number xs) k 0
number_at number xs k d there = sym (get_or-map number xs k d 0 there)

pub ordered_by : {X : Type 0} (number : X → ℕ) (xs : List X) → RisesFrom 0 (map number xs) → (i j : ℕ) (d e : X) → i ≤ j → j < length xs → number (get_or xs i d) ≤ number (get_or xs j e)
ordered_by number xs rises i j d e order there =
    let ordered = rises_ordered 0 (map number xs) rises i j 0 0 order (rw length-map there) in
    let first = number_at number xs i d (omega arith) in
    let second = number_at number xs j e there in
    omega arith

pub sorted_by : {X : Type 0} (number : X → ℕ) (xs : List X) → RisesFrom 0 (map number xs) → IsNonDecreasingBy number xs
sorted_by number xs rises i j d order there = ordered_by number xs rises i j d d order there

-- The result of a binary search is the count of members with numbers below a bound.
pub stand_below : {X : Type 0} (number : X → ℕ) (bound count : ℕ) (xs : List X) → count ≤ length xs → IsPartitionPoint (λ (x : X). ltb (number x) bound ≡ true) (λ (x : X). ltb (number x) bound ≡ false) xs count → StandBelow number bound count xs
stand_below number bound count xs within point = record {
  within = within;
  below = λ k d under. ltb-true _ _ (point.0 k d (omega arith) under);
  above = λ k d from there. ltb-false _ _ (point.1 k d from there);
}

-- No member below the bound has the bound as its number.
pub differ_below : {X : Type 0} (number : X → ℕ) (bound count : ℕ) (xs : List X) → StandBelow number bound count xs → (k : ℕ) (d : X) → k < count → eqb (number (get_or xs k d)) bound ≡ false
differ_below number bound count xs h k d under = let less = h.below k d under in ne_eqb _ _ (λ e. absurd (omega arith))

-- If all members are below the bound, no member has the bound as its number.
pub differ_all : {X : Type 0} (number : X → ℕ) (bound count : ℕ) (xs : List X) → StandBelow number bound count xs → count ≡ length xs → (k : ℕ) (d : X) → k < length xs → eqb (number (get_or xs k d)) bound ≡ false
differ_all number bound count xs h whole k d there = differ_below number bound count xs h k d (omega arith)

lt_of_le_ne : {a b : ℕ} → a ≤ b → (b ≡ a → ⊥) → a < b
lt_of_le_ne le ne = omega arith

-- If the first member that is not below the bound has another number, no member has the bound as
-- its number.
pub differ_other : {X : Type 0} (number : X → ℕ) (bound count : ℕ) (xs : List X) (first : X) → RisesFrom 0 (map number xs) → StandBelow number bound count xs → count < length xs → (number (get_or xs count first) ≡ bound → ⊥) → (k : ℕ) (d : X) → k < length xs → eqb (number (get_or xs k d)) bound ≡ false
differ_other number bound count xs first rises h there other k d inside =
    ne_eqb _ _
    (λ same.
    ⊎_elim
    (λ under. let less = h.below k d under in absurd (omega arith))
    (λ from.
    let more : bound < number (get_or xs count first) = lt_of_le_ne (h.above count first (omega arith) there) other in
    let later = ordered_by number xs rises count k first d from inside in
    absurd (omega arith))
    (cases_lt k count))
