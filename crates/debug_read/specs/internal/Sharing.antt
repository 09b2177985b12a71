-- Abbreviations that several units name: they are read once.
use Rattle.std.specs.Prelude.{◌≡◌, List, Option, None, Some, Result}
use Rattle.sym_edges.specs.declared.located.Located.{Located}
use Rattle.abbrev_units.specs.SpecFields.{Abbrev}
use Rattle.abbrev_units.specs.declared.fault.DwarfKind.{DwarfKind}
use Rattle.abbrev_units.specs.declared.unit.Unit.{Unit}
use Rattle.abbrev_units.specs.Abbreviations.{abbrevs_of}
use Rattle.abbrev_units.specs.DebugSections.{DebugSections}

-- units, and what was read for each of them
pub record SharedParts : Type 0 where
  pub firsts : List Unit
  pub tables : List (Result (List Abbrev) (Located DwarfKind))

-- the abbreviations of a unit, or their fault
abbrev pub IsRead : DebugSections → Unit → Result (List Abbrev) (Located DwarfKind) → Type 0
IsRead sections unit read = abbrevs_of sections unit ≡ read

-- the input for abbreviations that are read by the numbers of units
pub record AbbrevParts : Type 0 where
  pub sections : DebugSections
  pub firsts : List Unit

abbrev pub AbbrevsGive : AbbrevParts → Option Unit → Result (List Abbrev) (Located DwarfKind) → Type 0
AbbrevsGive reader None read = ⊥
AbbrevsGive reader (Some unit) read = IsRead reader.sections unit read
