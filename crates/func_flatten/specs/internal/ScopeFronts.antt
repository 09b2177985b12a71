-- The prefixes that scopes give to the names of the entries in them.
use Rattle.std.specs.Prelude.{◌≡◌, ℕ, ◌+◌, ◌*◌, ◌^◌, ◌<◌, List, [], ◌∷◌, Option, None, Some}
use Rattle.std.specs.BTreeMap.{BTreeMap, get}
use Rattle.std.specs.List.{slice_get}
use Rattle.std.specs.Option.{option_map_or}
use Rattle.std.specs.Ordering.{nat_cmp}
use Rattle.die_walk.specs.EntryTable.{DieFields}
use Rattle.debug_units.specs.declared.unit_read.UnitRead.{UnitRead}
use Rattle.die_names.specs.Names.{around, fronts, dies_of}

-- the entries of unit `unit`
abbrev pub unit_dies : List UnitRead → ℕ → List DieFields
unit_dies units unit = dies_of (slice_get units unit)

-- the numbers of the entries around entry `entry`, beginning with the innermost
unfoldable pub outer : List DieFields → ℕ → List ℕ
outer dies entry = option_map_or (λ die. around dies entry die.parent) (slice_get dies entry) []

-- the numbers of an entry and of the entries around it, beginning with the innermost
abbrev pub outer_from : List DieFields → Option ℕ → List ℕ
outer_from dies None = []
outer_from dies (Some entry) = entry ∷ outer dies entry

-- the prefix of an entry's name
unfoldable pub outer_front : List UnitRead → ℕ → ℕ → List ℕ
outer_front units unit entry = fronts (unit_dies units unit) (outer (unit_dies units unit) entry)

-- the prefix that an entry and the scopes around it give to the names in the entry
unfoldable pub inner_front : List UnitRead → ℕ → ℕ → List ℕ
inner_front units unit entry = fronts (unit_dies units unit) (entry ∷ outer (unit_dies units unit) entry)

-- an entry of a unit as one number
abbrev pub place_of : ℕ → ℕ → ℕ
place_of unit entry = unit * 2 ^ 32 + entry

-- what is noted of an entry holds for it
abbrev pub AreNoted : {A : Type 0} → (ℕ → ℕ → A → Type 0) → BTreeMap ℕ A → Type 0
AreNoted {A} holds noted = (unit entry : ℕ) (x : A) → unit < 2 ^ 32 → entry < 2 ^ 32 → get nat_cmp noted (place_of unit entry) ≡ Some x → holds unit entry x
