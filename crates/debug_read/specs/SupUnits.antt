-- The units of a supplementary file (DWARF 5, 7.3.6) into which entries lead.
use Rattle.std.specs.Prelude.{◌≡◌, ℕ, ◌+◌, ◌&&◌, ◌||◌, nat_le, nat_lt, Bool, true, false, List, Option, Some, None}
use Rattle.std.specs.List.{flat_map, list_any}
use Rattle.abbrev_units.specs.DebugSections.{first_place}
use Rattle.abbrev_units.specs.declared.unit.Unit.{Unit}
use Rattle.die_walk.specs.EntryTable.{DieFields}
use Rattle.debug_units.specs.declared.unit_read.UnitRead.{UnitRead}

-- a place, counted through the file and its supplementary file, is in the unit `unit` of the
-- supplementary file
abbrev pub is_place_in : Unit → Option ℕ → Bool
is_place_in unit None = false
is_place_in unit (Some place) = nat_le (first_place true + unit.start) place && nat_lt place (first_place true + unit.end)

-- an entry leads into the unit, by its abstract origin or by its specification
abbrev pub leads_into : Unit → DieFields → Bool
leads_into unit die = is_place_in unit die.origin || is_place_in unit die.spec

-- a place, counted in the supplementary file alone, is in the unit
abbrev pub lies_in : Unit → ℕ → Bool
lies_in unit place = nat_le unit.start place && nat_lt place unit.end

-- for each unit of the supplementary file, one of the places is in it exactly if one of the entries leads into it
pub record AreTargets (entries : List DieFields) (places : List ℕ) : Type 0 where
  pub each : (unit : Unit) → list_any (lies_in unit) places ≡ list_any (leads_into unit) entries

-- the entries of units
abbrev pub entries_of : List UnitRead → List DieFields
entries_of units = flat_map (λ (u : UnitRead). u.die.dies) units
