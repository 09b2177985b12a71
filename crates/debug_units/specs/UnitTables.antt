-- The entry tables of units.
use Rattle.std.specs.Prelude.{◌≡◌, List, [], ◌∷◌, Ok}
use Rattle.abbrev_units.specs.SpecFields.{Abbrev}
use Rattle.abbrev_units.specs.declared.unit.Unit.{Unit}
use Rattle.abbrev_units.specs.DebugSections.{DebugSections}
use Rattle.die_walk.specs.EntryTable.{EntryTable, entry_table}
use Rattle.debug_units.specs.declared.unit_read.UnitRead.{UnitRead}

-- the table is the entry table of the unit, with some list of abbreviations
pub record IsTable (sections : DebugSections) (unit : Unit) (made : EntryTable) : Type 0 where
  pub abbrevs : List Abbrev
  pub table : entry_table sections unit abbrevs ≡ Ok made

-- each part has the entry table of the unit at the same position
abbrev pub AreTables : DebugSections → List Unit → List UnitRead → Type 0
AreTables sections [] [] = Prim.Unit {0}
AreTables sections (unit ∷ units) (part ∷ parts) = IsTable sections unit part.die × AreTables sections units parts
AreTables sections _ _ = ⊥
