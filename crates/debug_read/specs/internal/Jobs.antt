-- The input and the results of the jobs that read units and line tables, each by its number.
use Rattle.std.specs.Prelude.{◌≡◌, ◌≤◌, ◌^◌, List, length, Result, Ok, Err}
use Rattle.std.specs.List.{AllByRecursion}
use Rattle.sym_edges.specs.Addresses.{Range}
use Rattle.sym_edges.specs.declared.located.Located.{Located}
use Rattle.abbrev_units.specs.declared.fault.DwarfKind.{DwarfKind}
use Rattle.abbrev_units.specs.declared.unit.Unit.{Unit}
use Rattle.abbrev_units.specs.DebugSections.{DebugSections}
use Rattle.abbrev_units.specs.UnitPlaces.{IsInside}
use Rattle.debug_units.specs.declared.unit_read.UnitRead.{UnitRead}
use Rattle.debug_read.specs.Each.{Says, Match}
use Rattle.debug_read.specs.internal.Sharing.{SharedParts, IsRead}
use Rattle.debug_read.specs.UnitSays.{unit_says}
use Rattle.debug_read.specs.UnitsRead.{IsUnitRead}

-- the input of the jobs that read units by number: the sections, the units, the spans whose ranges
-- are code, and the abbreviations that several of the units name
pub record ReaderParts : Type 0 where
  pub sections : DebugSections
  pub units : List Unit
  pub code : List Range
  pub shared : SharedParts

pub record IsReader (reader : ReaderParts) : Type 0 where
  pub inside : AllByRecursion (IsInside (length reader.sections.info)) reader.units
  pub small : length reader.sections.info ≤ 2 ^ 29
  pub shared : Match (IsRead reader.sections) reader.shared.firsts reader.shared.tables

-- the input of the jobs that read line tables by number: the sections, and the spans whose ranges
-- are code
pub record NameParts : Type 0 where
  pub sections : DebugSections
  pub code : List Range

-- a unit's result is what is kept of it, or its first fault
abbrev pub IsFound : List Range → DebugSections → Unit → Result UnitRead (Located DwarfKind) → Type 0
IsFound code sections unit (Ok part) = Says (IsUnitRead code) (unit_says sections unit) part
IsFound code sections unit (Err fault) = unit_says sections unit ≡ Err fault
