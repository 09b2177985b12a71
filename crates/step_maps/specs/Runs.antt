-- The maximal intervals on which a function of addresses is defined and constant.
use Rattle.std.specs.Prelude.{◌≡◌, ◌≢◌, ℕ, ◌+◌, ◌<◌, ◌≤◌, Bool, ◌&&◌, nat_le, nat_lt, if◌then◌else◌, List, [], ◌∷◌, Option, None, Some}

-- the addresses from a start up to an end, without it, and the one value that they have
pub record Run (V : Type 0) : Type 0 where
  pub start : ℕ
  pub end : ℕ
  pub value : V

-- whether the run contains the address
abbrev pub has : {V : Type 0} → Run V → ℕ → Bool
has r a = nat_le r.start a && nat_lt a r.end

-- the value of the first run that contains the address
abbrev pub value_in : {V : Type 0} → List (Run V) → ℕ → Option V
value_in [] a = None
value_in (r ∷ runs) a = if has r a then Some r.value else value_in runs a

-- the next run, if there is one, begins at or above the end of this one; if it begins at the end, it has another value
abbrev pub Follows : {V : Type 0} → Run V → List (Run V) → Type 0
Follows r [] = Unit {0}
Follows r (s ∷ runs) = (r.end ≤ s.start) × (r.end ≡ s.start → r.value ≢ s.value)

-- no run is empty, the runs are ascending and disjoint, and two that touch have different values
abbrev pub AreRuns : {V : Type 0} → List (Run V) → Type 0
AreRuns [] = Unit {0}
AreRuns (r ∷ runs) = (r.start < r.end) × Follows r runs × AreRuns runs

-- the runs of a function: they have its value at each address, and no two of them can be joined
pub record IsRuns {V : Type 0} (f : ℕ → Option V) (runs : List (Run V)) : Type 0 where
  pub apart : AreRuns runs
  pub values : (a : ℕ) → value_in runs a ≡ f a

-- an interval on which the function is defined and constant, and that can't be made longer on either side
pub record IsMaximal {V : Type 0} (f : ℕ → Option V) (r : Run V) : Type 0 where
  pub some : r.start < r.end
  pub constant : (a : ℕ) → r.start ≤ a → a < r.end → f a ≡ Some r.value
  pub ends : f r.end ≢ Some r.value
  pub begins : (a : ℕ) → a + 1 ≡ r.start → f a ≢ Some r.value

abbrev pub AreMaximal : {V : Type 0} → (ℕ → Option V) → List (Run V) → Type 0
AreMaximal f [] = Unit {0}
AreMaximal f (r ∷ runs) = IsMaximal f r × AreMaximal f runs

-- the function from a start up to an end, and no value outside
abbrev pub between : {V : Type 0} → ℕ → ℕ → (ℕ → Option V) → ℕ → Option V
between start end f a = if nat_le start a && nat_lt a end then f a else None
