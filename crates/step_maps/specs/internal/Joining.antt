-- Covers made from the stops of a step map.
use Rattle.std.specs.Prelude.{ℕ, ◌-◌, ◌^◌, Bool, true, false, ◌==◌, if◌then◌else◌, List, [], ◌∷◌, Option, None, Some}
use Rattle.step_maps.specs.declared.stretch.FirstItem.{FirstItem}
use Rattle.step_maps.specs.declared.stretch.Cover.{Cover}

abbrev pub is_same_index : Option FirstItem → Option FirstItem → Bool
is_same_index None None = true
is_same_index None (Some y) = false
is_same_index (Some x) None = false
is_same_index (Some x) (Some y) = x.index == y.index

-- the later covers, with the one from `first` to `last` in front of them if there is an item
abbrev pub with_cover : ℕ → ℕ → Option FirstItem → List Cover → List Cover
with_cover first last None covers = covers
with_cover first last (Some item) covers = record { first = first; last = last; index = item.index; shared = item.shared } ∷ covers

-- one cover for each maximal interval on which the first item's index is the same
abbrev pub covers_from : ℕ → Option FirstItem → List ℕ → List (Option FirstItem) → List Cover
covers_from first now [] values = with_cover first (2 ^ 64 - 1) now []
covers_from first now (s ∷ stops) [] = with_cover first (2 ^ 64 - 1) now []
covers_from first now (s ∷ stops) (v ∷ values) =
    if is_same_index now v
    then covers_from first now stops values
    else with_cover first (s - 1) now (covers_from s v stops values)
