-- The places of a supplementary file (DWARF 5, 7.3.6) to which entries lead.
use Rattle.std.specs.Prelude.{ℕ, ◌-◌, nat_le, if◌then◌else◌, true, List, [], ◌∷◌, ◌++◌, Option, Some, None}
use Rattle.std.specs.List.{flat_map}
use Rattle.abbrev_units.specs.DebugSections.{first_place}
use Rattle.die_walk.specs.EntryTable.{DieFields}
use Rattle.debug_units.specs.declared.unit_read.UnitRead.{UnitRead}

-- the place in the supplementary file, if a place that is counted through the file and its
-- supplementary file is there
abbrev pub sup_places : Option ℕ → List ℕ
sup_places None = []
sup_places (Some place) = if nat_le (first_place true) place then (place - first_place true) ∷ [] else []

abbrev pub targets_of : DieFields → List ℕ
targets_of die = sup_places die.origin ++ sup_places die.spec

abbrev pub unit_targets : UnitRead → List ℕ
unit_targets unit = flat_map targets_of unit.die.dies
