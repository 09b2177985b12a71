-- What holds of results that are paired with their numbers, and of results at the places of their
-- numbers.
use Rattle.std.specs.Prelude.{◌≡◌, ℕ, ◌<◌, ◌≤◌, List, [], ◌∷◌, length, Option, Some, Result, IfSome, IfOk, IsSomeAnd, slice_index_or, slice_set}
use Rattle.std.specs.List.{All}
use Rattle.sym_edges.specs.declared.fault.OutOfMemory.{OutOfMemory}
use Rattle.unit_workers.specs.declared.worker.Worked.{Worked}
use Rattle.unit_workers.specs.Numbers.{times}
use Rattle.unit_workers.specs.Held.{Roll, Held, held}

-- `gives k` holds of member k of the list, for each k
abbrev pub AreInOrder : {A : Type 0} → (ℕ → A → Type 0) → List A → Type 0
AreInOrder {A} gives outs = (k : ℕ) (default : A) → k < length outs → gives k (slice_index_or outs k default)

-- a new hand, for one worker
abbrev pub one_hand : Roll → Held
one_hand roll = held roll [] 1 1

-- the numbers that the results are paired with
abbrev pub numbers : {A : Type 0} → List (ℕ × A) → List ℕ
numbers [] = []
numbers (r ∷ rs) = r.0 ∷ numbers rs

-- a number below the count, with a result for which `gives` holds at this number
abbrev pub IsResult : {A : Type 0} → (ℕ → A → Type 0) → ℕ → ℕ × A → Type 0
IsResult gives count r = (r.0 < count) × gives r.0 r.1

-- what one worker has: its hand drew the numbers of its results and has `rights` rights left;
-- without rights, the worker is done
pub record IsWorked {A : Type 0} (gives : ℕ → A → Type 0) (roll : Roll) (rights : ℕ) (hand : Held) (found : List (ℕ × A)) : Type 0 where
  pub holds : hand ≡ held roll (numbers found) rights 1
  pub each : All (IsResult gives roll.count) found

-- each worker that did not run out of memory is done
abbrev pub AreWorked : {A : Type 0} → (ℕ → A → Type 0) → Roll → List (Result (Worked A) OutOfMemory) → Type 0
AreWorked gives roll works = All (λ work. IfOk work (λ w. IsWorked gives roll 0 w.hand w.found.items)) works

-- the places, after each result was put into the place of its number; the last result is put first
abbrev pub placed : {A : Type 0} → List (Option A) → List (ℕ × A) → List (Option A)
placed slots [] = slots
placed slots (r ∷ rs) = slice_set (placed slots rs) r.0 (Some r.1)

-- Hands that were joined, and their results at the places of their numbers
pub record IsGathered {A : Type 0} (gives : ℕ → A → Type 0) (roll : Roll) (hand : Held) (slots : List (Option A)) : Type 0 where
  pub of : hand.roll ≡ roll
  pub rights : hand.rights ≡ 0
  pub long : length slots ≡ roll.count
  -- `gives k` holds of a result at place k
  pub fits : (k : ℕ) (default : Option A) → k < length slots → IfSome (slice_index_or slots k default) (gives k)
  -- the place of each number that was drawn has a result
  pub taken : (k : ℕ) (default : Option A) → k < length slots → 0 < times k hand.drawn → IsSomeAnd (slice_index_or slots k default) (gives k)

-- each place from `from` on has a result, and `gives` holds of it at this place
abbrev pub AreTaken : {A : Type 0} → (ℕ → A → Type 0) → ℕ → List (Option A) → Type 0
AreTaken {A} gives from slots = (k : ℕ) (default : Option A) → from ≤ k → k < length slots → IsSomeAnd (slice_index_or slots k default) (gives k)
