-- The units whose entries are in another file: skeleton units (DWARF 5, 3.1.2 and 7.5.1.2), and in version 4 the units of GNU's split DWARF.
use Rattle.std.specs.Prelude.{ℕ, ◌+◌, ◌==◌, Bool, true, false, if◌then◌else◌, List, drop, take, slice_index, Option, Some, None, Result, Ok, Err}
use Rattle.std.specs.List.{list_any}
use Rattle.sym_edges.specs.declared.located.Located.{Located}
use Rattle.leb_cursor.specs.Ahead.{Ahead}
use Rattle.leb_cursor.specs.Readings.{uleb_at}
use Rattle.abbrev_units.specs.Abbreviations.{abbrevs_of, abbrev_of}
use Rattle.abbrev_units.specs.DebugSections.{DebugSections}
use Rattle.abbrev_units.specs.SpecFields.{SpecFields, Abbrev}
use Rattle.abbrev_units.specs.Texts.{read_or_none}
use Rattle.abbrev_units.specs.declared.fault.DwarfKind.{DwarfKind}
use Rattle.abbrev_units.specs.declared.unit.Unit.{Unit}
use Rattle.abbrev_units.specs.declared.unit.UnitPart.{UnitPart}
use Rattle.abbrev_units.specs.declared.unit.UnitPart.TheVariants.{Read, Passed, Skipped}

-- the size of a unit's length field: four bytes, or twelve in the 64-bit format (7.4)
abbrev pub length_width : Bool → ℕ
length_width false = 4
length_width true = 12

-- the type of a unit of version 5: the byte after its length and the two bytes of its version
abbrev pub unit_type : List ℕ → Unit → ℕ
unit_type info unit = slice_index info (unit.start + length_width unit.wide + 2)

-- the type is DW_UT_skeleton
abbrev pub is_skeleton : List ℕ → Unit → Bool
is_skeleton info unit = unit_type info unit == 4

-- the attribute is DW_AT_GNU_dwo_name, which names the file with the entries
abbrev pub names_file : SpecFields → Bool
names_file spec = spec.attribute == 0x2130

abbrev pub has_name : Option Abbrev → Bool
has_name None = false
has_name (Some root) = list_any names_file root.specs

-- the attributes of a unit's first entry: the code of its abbreviation is at the place where the unit's entries begin
abbrev pub code_ahead : List ℕ → Unit → Ahead
code_ahead info unit = record { bytes = drop unit.body (take unit.end info); at = unit.body }

abbrev pub root_by : Option ℕ → Result (List Abbrev) (Located DwarfKind) → Bool
root_by None abbrevs = false
root_by (Some code) (Ok abbrevs) = has_name (abbrev_of code abbrevs)
root_by (Some code) (Err fault) = false

abbrev pub root_code : List ℕ → Unit → Option ℕ
root_code info unit = read_or_none (uleb_at (code_ahead info unit))

abbrev pub root_names_file : DebugSections → Unit → Bool
root_names_file sections unit = root_by (root_code sections.info unit) (abbrevs_of sections unit)

-- whether a unit of this version is split
abbrev pub is_split_by : ℕ → DebugSections → Unit → Bool
is_split_by version sections unit =
    if version == 5 then is_skeleton sections.info unit else if version == 4 then root_names_file sections unit else false

-- only a unit whose entries are read can be split; it has version 4 or 5
abbrev pub is_split_part : UnitPart → DebugSections → Unit → Bool
is_split_part Read sections unit = is_split_by unit.version sections unit
is_split_part Passed sections unit = false
is_split_part Skipped sections unit = false

abbrev pub is_split : DebugSections → Unit → Bool
is_split sections unit = is_split_part unit.part sections unit
