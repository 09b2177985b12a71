-- What is left out of a dump, given what was read of the file.
use Rattle.std.specs.Prelude.{ℕ, Bool, true, false, List, length, take, ◌++◌}
use Rattle.std.specs.List.{list_any}
use Rattle.elf_sections.specs.Image.{ImageParts}
use Rattle.abbrev_units.specs.UnitPlaces.{read_units}
use Rattle.abbrev_units.specs.declared.unit.Unit.{Unit}
use Rattle.abbrev_units.specs.declared.unit.UnitPart.{UnitPart}
use Rattle.abbrev_units.specs.declared.unit.UnitPart.TheVariants.{Skipped}
use Rattle.die_walk.specs.EntryTable.{DieFields}
use Rattle.debug_read.specs.ImageSections.{sections_of}
use Rattle.debug_read.specs.SupUnits.{entries_of, lies_in}
use Rattle.debug_read.specs.declared.found.DebugRead.{DebugRead}
use Rattle.rule_postfix.specs.declared.omission.Omission.{Omission}
use Rattle.dumpsyms_cmd.specs.Refusals.{omitted_text, units_text}
use Rattle.dumpsyms_cmd.specs.SupUnits.{sup_skipped_by, sup_skipped_text}

-- the kept entries of the file itself
abbrev pub kept_entries : DebugRead → List DieFields
kept_entries read = entries_of (take (length (read_units read.headers)) read.units)

-- the unit is skipped
abbrev pub is_skipped_by : UnitPart → Bool
is_skipped_by Skipped = true
is_skipped_by part = false

abbrev pub is_skipped : Unit → Bool
is_skipped unit = is_skipped_by unit.part

-- the line for a unit of the supplementary file, given the places to which entries refer
abbrev pub sup_left : List ℕ → Unit → List ℕ
sup_left targets unit = sup_skipped_by (list_any (lies_in unit) targets) unit unit.part

-- the text on standard error
abbrev pub left_of : Bool → ImageParts → DebugRead → List Omission → List ℕ
left_of full parts read omissions =
    units_text full (sections_of parts) read.headers ++ (sup_skipped_text (kept_entries read) read.sup_headers ++ omitted_text omissions)
