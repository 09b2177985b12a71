-- The skipped units of a supplementary file (DWARF 5, 7.3.6) to which an entry of the file refers.
use Rattle.std.specs.Prelude.{ℕ, Bool, true, List, [], length, take}
use Rattle.std.specs.List.{flat_map, list_any}
use Rattle.abbrev_units.specs.UnitPlaces.{read_units}
use Rattle.abbrev_units.specs.declared.unit.Unit.{Unit}
use Rattle.abbrev_units.specs.declared.unit.UnitPart.{UnitPart}
use Rattle.abbrev_units.specs.declared.unit.UnitPart.TheVariants.{Skipped}
use Rattle.die_walk.specs.EntryTable.{DieFields}
use Rattle.debug_read.specs.DebugSays.{DebugSays}
use Rattle.debug_read.specs.SupUnits.{leads_into}
use Rattle.debug_read.specs.UnitSays.{UnitSays}
use Rattle.dumpsyms_cmd.specs.Refusals.{sup_skipped_line}

-- the kept entries of the file itself; its units come before those of the supplementary file
abbrev pub own_entries : DebugSays → List DieFields
own_entries found = flat_map (λ (u : UnitSays). u.table.dies) (take (length (read_units found.headers)) found.units)

abbrev pub sup_skipped_by : Bool → Unit → UnitPart → List ℕ
sup_skipped_by true unit Skipped = sup_skipped_line unit
sup_skipped_by needed unit part = []

abbrev pub sup_skipped_of : List DieFields → Unit → List ℕ
sup_skipped_of entries unit = sup_skipped_by (list_any (leads_into unit) entries) unit unit.part

unfoldable pub sup_skipped_text : List DieFields → List Unit → List ℕ
sup_skipped_text entries units = flat_map (sup_skipped_of entries) units
