-- Which record is the first at each address of 64 bits, as a map, and on an interval of addresses
-- with the same first record.
use Rattle.std.specs.Prelude.{◌≡◌, ℕ, ◌<◌, ◌≤◌, ◌^◌, Option, None, Some}
use Rattle.std.specs.Option.{option_map}
use Rattle.step_maps.specs.Stepping.{Stepping, value_at}
use Rattle.step_maps.specs.declared.stretch.FirstItem.{FirstItem}
use Rattle.sym_lookup.specs.declared.answers.PlaceRun.{PlaceRun}

-- the index of the first item that a map has at an address
abbrev pub place_in : Stepping (Option FirstItem) → ℕ → Option ℕ
place_in map x = option_map (λ (i : FirstItem). i.index) (value_at None map x)

-- at each address of 64 bits the map has the place that `find` gives
pub record IsPlaceMap (find : ℕ → Option ℕ) (map : Stepping (Option FirstItem)) : Type 0 where
  pub places : (x : ℕ) → x < 2 ^ 64 → place_in map x ≡ find x

-- the address is below the end, if there is an end
abbrev pub IsBefore : Option ℕ → ℕ → Type 0
IsBefore None x = Unit {0}
IsBefore (Some end) x = x < end

-- from the address x up to `run.end`, which is above x, `find` gives `run.place`; if `run.end` is
-- missing, up to the last address
pub record IsPlaceRun (find : ℕ → Option ℕ) (x : ℕ) (run : PlaceRun) : Type 0 where
  pub above : IsBefore run.end x
  pub places : (y : ℕ) → x ≤ y → y < 2 ^ 64 → IsBefore run.end y → find y ≡ run.place
