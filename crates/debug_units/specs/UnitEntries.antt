-- The kept entries of all units that were read.
use Rattle.std.specs.Prelude.{◌≡◌, ℕ, ◌+◌, ◌<◌, ◌^◌, ◌==◌, false, List, [], ◌∷◌, ◌++◌, map, length, Option, None, Some}
use Rattle.std.specs.List.{find, slice_get}
use Rattle.std.specs.Option.{option_map}
use Rattle.sym_edges.specs.Addresses.{Range}
use Rattle.sym_edges.specs.Rising.{RisesFrom}
use Rattle.die_walk.specs.EntryKinds.{counts}
use Rattle.die_walk.specs.EntryTable.{DieFields}
use Rattle.debug_units.specs.declared.unit_read.EntryRef.{EntryRef}
use Rattle.debug_units.specs.declared.unit_read.UnitRead.{UnitRead}

-- an entry with the number of its unit and its own number in the unit
pub record Placed : Type 0 where
  pub unit : ℕ
  pub entry : ℕ
  pub die : DieFields

-- the entries of a unit, numbered from `entry`
abbrev pub unit_entries : ℕ → ℕ → List DieFields → List Placed
unit_entries unit entry [] = []
unit_entries unit entry (die ∷ dies) = record { unit = unit; entry = entry; die = die } ∷ unit_entries unit (entry + 1) dies

-- the entries of units whose numbers begin with `unit`
abbrev pub entries_from : ℕ → List UnitRead → List Placed
entries_from unit [] = []
entries_from unit (part ∷ parts) = unit_entries unit 0 part.die.dies ++ entries_from (unit + 1) parts

-- the entry that begins at a place of `.debug_info`
unfoldable pub entry_at : List UnitRead → ℕ → Option Placed
entry_at units place = find (λ p. p.die.at == place) (entries_from 0 units)

-- the entry `entry` of unit `unit`
abbrev pub entry_in : ℕ → ℕ → Option UnitRead → Option Placed
entry_in unit entry None = None
entry_in unit entry (Some part) = option_map (λ die. record { unit = unit; entry = entry; die = die }) (slice_get part.die.dies entry)

unfoldable pub entry_of : List UnitRead → ℕ → ℕ → Option Placed
entry_of units unit entry = entry_in unit entry (slice_get units unit)

-- the entry that an `EntryRef` names, without its numbers
abbrev pub die_from : ℕ → Option UnitRead → Option DieFields
die_from entry None = None
die_from entry (Some part) = slice_get part.die.dies entry

abbrev pub die_in : List UnitRead → EntryRef → Option DieFields
die_in units s = die_from s.entry (slice_get units s.unit)

-- each entry has a set of addresses, which is empty if the entry does not count
abbrev pub ArePaired : List DieFields → List (List Range) → Type 0
ArePaired [] [] = Prim.Unit {0}
ArePaired (die ∷ dies) (spans ∷ sets) = (counts die ≡ false → spans ≡ []) × ArePaired dies sets
ArePaired _ _ = ⊥

abbrev pub ArePairs : List UnitRead → Type 0
ArePairs [] = Prim.Unit {0}
ArePairs (part ∷ parts) = ArePaired part.die.dies part.spans × ArePairs parts

-- the places of the entries of all units
abbrev pub places : List UnitRead → List ℕ
places [] = []
places (part ∷ parts) = map (λ die. die.at) part.die.dies ++ places parts

-- what holds for the units of a file after they were read
pub record AreRead (units : List UnitRead) : Type 0 where
  pub few : length units < 2 ^ 32
  pub few_entries : length (places units) < 2 ^ 32
  pub paired : ArePairs units
  pub rising : RisesFrom 0 (places units)
