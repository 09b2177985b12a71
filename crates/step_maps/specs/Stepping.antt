-- Functions of addresses that change at a few of them: the stops.
use Rattle.std.specs.Prelude.{◌≡◌, ℕ, ◌^◌, ◌<◌, nat_le, if◌then◌else◌, List, [], ◌∷◌, length}
use Rattle.sym_edges.specs.Rising.{RisesFrom}

-- the stops in order, and for each the value from there on
pub record Stepping (V : Type 0) : Type 0 where
  pub stops : List ℕ
  pub values : List V

-- the value at an address: that of the last stop at or below it, or `before` if there is none
unfoldable pub held_from : {V : Type 0} → V → List ℕ → List V → ℕ → V
held_from before [] values a = before
held_from before (s ∷ stops) [] a = before
held_from before (s ∷ stops) (v ∷ values) a = held_from (if nat_le s a then v else before) stops values a

abbrev pub value_at : {V : Type 0} → V → Stepping V → ℕ → V
value_at before steps a = held_from before steps.stops steps.values a

-- the last stop, or `low` if there is none
abbrev pub last_from : ℕ → List ℕ → ℕ
last_from low [] = low
last_from low (s ∷ stops) = last_from s stops

-- there is a value for each stop, and the stops are ascending addresses of 64 bits
pub record IsStepping {V : Type 0} (stops : List ℕ) (values : List V) : Type 0 where
  pub paired : length stops ≡ length values
  pub rising : RisesFrom 0 stops
  pub fits : last_from 0 stops < 2 ^ 64
