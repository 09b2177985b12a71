-- The addresses of modules as stretches, in the order in which modules count.
use Rattle.std.specs.Prelude.{◌≡◌, ℕ, ◌+◌, ◌-◌, ◌^◌, ◌<◌, ◌≤◌, ◌⊎◌, List, [], ◌∷◌, Option, None, nat_lt, if◌then◌else◌}
use Rattle.std.specs.List.{AllByRecursion}
use Rattle.std.specs.Option.{option_map}
use Rattle.step_maps.specs.Stepping.{Stepping, value_at}
use Rattle.step_maps.specs.declared.stretch.Stretch.{Stretch}
use Rattle.step_maps.specs.declared.stretch.FirstItem.{FirstItem}
use Rattle.core_file.specs.declared.modules.Module.{Module}
use Rattle.module_stacks.specs.ModuleAt.{module_at}

-- the addresses of the module at a place
abbrev pub stretch_of : ℕ → Module → Stretch
stretch_of place m = record { first = m.start; last = m.end - 1; index = place; class = 0 }

-- the stretches of the modules that have any addresses; the first of `modules` has the number
-- `place`
unfoldable pub stretches_from : ℕ → List Module → List Stretch
stretches_from place [] = []
stretches_from place (m ∷ modules) =
    if nat_lt m.start m.end then stretch_of place m ∷ stretches_from (place + 1) modules else stretches_from (place + 1) modules

-- s starts below t, or they start at the same address and s is not after t in the list of modules
abbrev pub Upto : Stretch → Stretch → Type 0
Upto s t = (s.first < t.first) ⊎ ((s.first ≡ t.first) × (s.index ≤ t.index))

-- each stretch takes precedence over all after it
abbrev pub Fall : List Stretch → Type 0
Fall [] = Unit {0}
Fall (s ∷ stretches) = AllByRecursion (λ t. Upto t s) stretches × Fall stretches

-- the step map has at each address the place of the module that counts
abbrev pub IsModuleMap : List Module → Stepping (Option FirstItem) → Type 0
IsModuleMap modules tops = (a : ℕ) → a < 2 ^ 64 → option_map (λ (item : FirstItem). item.index) (value_at None tops a) ≡ module_at modules a
