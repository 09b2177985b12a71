-- The line tables of all units, after the entries of the units were read. Each table is read once, and has the same faults whichever unit names it.
use Rattle.std.specs.Prelude.{◌≡◌, ℕ, Bool, true, List, Option, None, Some, Result, Ok, Err}
use Rattle.std.specs.List.{All}
use Rattle.sym_edges.specs.Addresses.{Range}
use Rattle.sym_edges.specs.declared.located.Located.{Located}
use Rattle.abbrev_units.specs.declared.fault.DwarfKind.{DwarfKind}
use Rattle.abbrev_units.specs.declared.unit.Unit.{Unit}
use Rattle.abbrev_units.specs.DebugSections.{DebugSections}
use Rattle.die_walk.specs.EntryTable.{RootFields}
use Rattle.range_set.specs.Enclosing.{encloses}
use Rattle.line_program.specs.LineMaps.{LineMap, EncloseAlike}
use Rattle.line_program.specs.LineTables.{unit_lines, Says as SaysTable}
use Rattle.debug_units.specs.declared.unit_read.UnitRead.{UnitRead}
use Rattle.debug_read.specs.declared.named_tables.NamedTable.{NamedTable}
use Rattle.debug_read.specs.declared.named_tables.TableName.{TableName}
use Rattle.debug_read.specs.declared.named_tables.TableRead.{TableRead}
use Rattle.debug_read.specs.declared.named_tables.TableRead.TheVariants.{Outside, Sound, Whole, Refused}
use Rattle.debug_read.specs.declared.unit_tables.UnitFound.{UnitFound}
use Rattle.debug_read.specs.declared.unit_tables.KnownTables.{KnownTables}
use Rattle.debug_read.specs.Each.{Says}
use Rattle.debug_read.specs.UnitSays.{root_lines, unit_says}
use Rattle.debug_read.specs.UnitsRead.{KeepsLines, IsUnitRead}
use Rattle.line_program.specs.LineMaps.{no_lines}
use Rattle.debug_read.specs.internal.Jobs.{ReaderParts, IsFound}

-- a reading has no fault
abbrev pub IsOk : {A F : Type 0} → Result A F → Type 0
IsOk (Ok x) = Prim.Unit {0}
IsOk (Err fault) = ⊥

-- the line table at an offset has no fault, whichever unit names it
abbrev pub IsSound : DebugSections → ℕ → Type 0
IsSound sections offset = (at : ℕ) (comp_dir : List ℕ) → IsOk (unit_lines sections offset at comp_dir)

-- the line table at an offset has this fault, whichever unit names it
abbrev pub IsRefused : DebugSections → ℕ → Located DwarfKind → Type 0
IsRefused sections offset fault = (at : ℕ) (comp_dir : List ℕ) → unit_lines sections offset at comp_dir ≡ Err fault

-- the table says what is read at an offset, for any unit with that compilation directory, and for
-- any spans by which the same ranges are code
abbrev pub WholeBy : List Range → DebugSections → ℕ → List ℕ → LineMap → Type 0
WholeBy code sections offset comp_dir table = (spans : List Range) (at : ℕ) → EncloseAlike code spans → SaysTable (encloses spans) (unit_lines sections offset at comp_dir) table

-- what was read at an offset for units with that compilation directory
abbrev pub TableBy : List Range → DebugSections → ℕ → List ℕ → TableRead → Type 0
TableBy code sections offset comp_dir Outside = Prim.Unit {0}
TableBy code sections offset comp_dir Sound = IsSound sections offset
TableBy code sections offset comp_dir (Whole table) = WholeBy code sections offset comp_dir table
TableBy code sections offset comp_dir (Refused fault) = IsRefused sections offset fault

abbrev pub IsTable : List Range → DebugSections → NamedTable → Type 0
IsTable code sections one = TableBy code sections one.name.offset one.name.comp_dir.now one.read

-- what was read for one name is right for the sought name too
abbrev pub IsFor : TableName → TableName → Type 0
IsFor name sought = (name.offset ≡ sought.offset) × (sought.kept ≡ true → name.comp_dir.now ≡ sought.comp_dir.now)

-- what is known of the line tables of all units
pub record AreKnown (known : KnownTables) : Type 0 where
  pub tables : All (IsTable known.code.now known.sections.now) known.tables.items
  pub empty : known.empty ≡ no_lines

-- the lines that are kept of a unit, or the fault of its table
abbrev pub LinesAre : List Range → DebugSections → RootFields → Bool → Result LineMap (Located DwarfKind) → Type 0
LinesAre spans sections root asked (Ok lines) = Says (KeepsLines spans asked) (root_lines sections root) lines
LinesAre spans sections root asked (Err fault) = root_lines sections root ≡ Err fault

-- what was found of a unit, with the lines that are kept, is what is kept of the unit; and a fault
-- of its line table is a fault of the unit
pub record HoldsUnit (spans : List Range) (sections : DebugSections) (unit : Unit) (found : UnitFound) : Type 0 where
  pub kept : (lines : LineMap) → Says (KeepsLines spans found.function) (root_lines sections found.die.root) lines → Says (IsUnitRead spans) (unit_says sections unit) (record { die = found.die; spans = found.spans; lines = lines })
  pub fault : (fault : Located DwarfKind) → root_lines sections found.die.root ≡ Err fault → unit_says sections unit ≡ Err fault

-- what was found of a unit, or its first fault before its line table
abbrev pub IsOwing : List Range → DebugSections → Unit → Result UnitFound (Located DwarfKind) → Type 0
IsOwing spans sections unit (Ok found) = HoldsUnit spans sections unit found
IsOwing spans sections unit (Err fault) = unit_says sections unit ≡ Err fault

-- what a unit's result becomes once its line table is known
abbrev pub Settles : List Range → DebugSections → Result UnitFound (Located DwarfKind) → Result UnitRead (Located DwarfKind) → Type 0
Settles spans sections one out = (unit : Unit) → IsOwing spans sections unit one → IsFound spans sections unit out

-- the result for a unit; there is none after the last unit
abbrev pub ReaderGives : ReaderParts → Option Unit → Result UnitFound (Located DwarfKind) → Type 0
ReaderGives reader None found = ⊥
ReaderGives reader (Some unit) found = (spans : List Range) → EncloseAlike reader.code spans → IsOwing spans reader.sections unit found
