-- How an entry is found by its place.
use Rattle.std.specs.Prelude.{ℕ, ◌+◌, ◌<◌, ◌==◌, Bool, List, length, Option, None, Some}
use Rattle.std.specs.List.{slice_get}
use Rattle.std.specs.Option.{option_map}
use Rattle.die_walk.specs.EntryTable.{DieFields}
use Rattle.die_names.specs.declared.entry_search.Standing.{Standing}
use Rattle.debug_units.specs.declared.unit_read.EntryRef.{EntryRef}
use Rattle.debug_units.specs.declared.unit_read.UnitRead.{UnitRead}
use Rattle.debug_units.specs.UnitEntries.{Placed, entry_in, entry_of}

abbrev pub is_at : ℕ → Placed → Bool
is_at place p = p.die.at == place

-- the entry with a number in a unit
abbrev pub found_in : ℕ → List DieFields → Option ℕ → Option Placed
found_in unit dies None = None
found_in unit dies (Some entry) = option_map (λ die. record { unit = unit; entry = entry; die = die }) (slice_get dies entry)

-- the entry at a `Standing` in a list of units that are numbered from `first`
abbrev pub found_from : ℕ → List UnitRead → Option Standing → Option Placed
found_from first units None = None
found_from first units (Some s) = entry_in (first + s.unit) s.entry (slice_get units s.unit)

-- the entry that an `EntryRef` names
abbrev pub found : List UnitRead → Option EntryRef → Option Placed
found units None = None
found units (Some s) = entry_of units s.unit s.entry

-- the numbers of an entry, after `count` units were added in front of the list
abbrev pub moved : ℕ → Option Standing → Option Standing
moved count None = None
moved count (Some s) = Some (record { unit = count + s.unit; entry = s.entry })

-- how many entries a unit has; and that there is an entry with these numbers
abbrev pub die_count : Option UnitRead → ℕ
die_count None = 0
die_count (Some part) = length part.die.dies

pub record IsInside (units : List UnitRead) (s : Standing) : Type 0 where
  pub unit : s.unit < length units
  pub entry : s.entry < die_count (slice_get units s.unit)
