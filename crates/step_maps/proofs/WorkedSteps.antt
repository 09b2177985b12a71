-- Worked examples: the values of step maps, and their runs.
use Rattle.std.proofs.Common.{◌≡◌, ℕ, ◌+◌, map, [], ◌∷◌, Option, None, Some, refl}
use Rattle.std.specs.List.{range_with_len}
use Prim.Native.String.{String}
use Rattle.sym_edges.proofs.Shown.{shown}
use Rattle.step_maps.specs.Stepping.{Stepping, value_at}
use Rattle.step_maps.specs.Runs.{Run, value_in, between}
use Rattle.step_maps.specs.StepRuns.{pieces}
use Rattle.step_maps.proofs.Computing.{step_maps_computes}

abbrev digit : Option ℕ → ℕ
digit None = 46
digit (Some n) = 48 + n

-- The value at each of `count` addresses from 0 on, as one digit.
unfoldable drawn : (ℕ → Option ℕ) → ℕ → String
drawn f count = shown (map (λ a. digit (f a)) (range_with_len 0 count))

-- No value below 2, then 1; from 5 on 2; from 7 on none; from 8 on 2 again.
abbrev steps : Stepping (Option ℕ)
steps = record { stops = 2 ∷ 5 ∷ 7 ∷ 8 ∷ []; values = Some 1 ∷ Some 2 ∷ None ∷ Some 2 ∷ [] }

held : drawn (value_at None steps) 11 ≡ "..11122.222"
unfolding drawn step_maps_computes
held = refl

-- Another value than `None` below the first stop.
held_before_it : drawn (value_at (Some 9) steps) 4 ≡ "9911"
unfolding drawn step_maps_computes
held_before_it = refl

-- A map without stops.
held_nowhere : drawn (value_at (Some 9) (record { stops = []; values = [] })) 3 ≡ "999"
unfolding drawn step_maps_computes
held_nowhere = refl

-- A stop at address 0.
held_from_zero : drawn (value_at None (record { stops = 0 ∷ []; values = Some 3 ∷ [] })) 3 ≡ "333"
unfolding drawn step_maps_computes
held_from_zero = refl

abbrev run : ℕ → ℕ → ℕ → Run ℕ
run start end value = record { start = start; end = end; value = value }

-- The runs up to 10: two that touch, and one apart that ends at 10.
runs : pieces 10 steps ≡ run 2 5 1 ∷ run 5 7 2 ∷ run 8 10 2 ∷ []
runs = refl

-- The runs have the values of the step map up to that end.
runs_drawn : drawn (value_in (pieces 10 steps)) 12 ≡ "..11122.22.."
unfolding drawn step_maps_computes
runs_drawn = refl

cut_drawn : drawn (between 3 9 (value_at None steps)) 12 ≡ "...1122.2..."
unfolding drawn step_maps_computes
cut_drawn = refl
