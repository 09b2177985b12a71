-- The cached abbreviations of the unit that was asked for last.
use Rattle.std.specs.Prelude.{◌≡◌, List, Option, Some, None, Ok}
use Rattle.abbrev_units.specs.Abbreviations.{abbrevs_of}
use Rattle.abbrev_units.specs.DebugSections.{DebugSections}
use Rattle.abbrev_units.specs.SpecFields.{Abbrev}
use Rattle.abbrev_units.specs.declared.unit.Unit.{Unit}

-- if a unit is cached, these are its abbreviations
abbrev pub IsHeld : DebugSections → Option Unit → List Abbrev → Type 0
IsHeld sections None abbrevs = Prim.Unit {0}
IsHeld sections (Some unit) abbrevs = abbrevs_of sections unit ≡ Ok abbrevs
