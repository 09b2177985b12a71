-- The runs of a step map whose values may be none.
use Rattle.std.specs.Prelude.{◌≢◌, ℕ, List, [], ◌∷◌, Option, None, Some}
use Rattle.step_maps.specs.Stepping.{Stepping}
use Rattle.step_maps.specs.Runs.{Run}

-- each value differs from the one before it
abbrev pub Differ : {V : Type 0} → V → List V → Type 0
Differ before [] = Unit {0}
Differ before (v ∷ values) = (before ≢ v) × Differ v values

-- the later runs, with the interval from `start` up to `end` in front of them if it has a value
abbrev pub with_piece : {V : Type 0} → ℕ → ℕ → Option V → List (Run V) → List (Run V)
with_piece start end None runs = runs
with_piece start end (Some v) runs = record { start = start; end = end; value = v } ∷ runs

-- the intervals that have a value: each goes from one stop up to the next, or from the last stop up
-- to `end`
abbrev pub pieces_from : {V : Type 0} → ℕ → ℕ → Option V → List ℕ → List (Option V) → List (Run V)
pieces_from end start now [] values = with_piece start end now []
pieces_from end start now (s ∷ stops) [] = with_piece start end now []
pieces_from end start now (s ∷ stops) (v ∷ values) = with_piece start s now (pieces_from end s v stops values)

abbrev pub pieces : {V : Type 0} → ℕ → Stepping (Option V) → List (Run V)
pieces end steps = pieces_from end 0 None steps.stops steps.values
