-- Kept entries and roots, made from picks. No public clause cites this module.
use Rattle.std.specs.Prelude.{ℕ, if◌then◌else◌, List, Option, None, option_and_then}
use Rattle.abbrev_units.specs.declared.value.Value.{Value}
use Rattle.abbrev_units.specs.declared.unit.Unit.{Unit}
use Rattle.abbrev_units.specs.DebugSections.{DebugSections}
use Rattle.abbrev_units.specs.Picks.{PickFields}
use Rattle.abbrev_units.specs.Attributes.{entry_text, as_place, as_reference, as_flag, as_number, is_elsewhere, is_yes, line_of, or_else}
use Rattle.die_walk.specs.EntryTable.{DieFields, RootFields}

-- the text of a value, or none
abbrev pub text_by : DebugSections → Unit → Option ℕ → Option Value → Option (List ℕ)
text_by sections unit base value = option_and_then (entry_text sections unit base) value

abbrev pub base_by : PickFields → Option ℕ
base_by picks = option_and_then as_place picks.str_offsets_base

unfoldable pub die_by : DebugSections → Unit → Option ℕ → ℕ → Option ℕ → ℕ → PickFields → DieFields
die_by sections unit base at parent tag picks = record {
  at = at;
  tag = tag;
  parent = parent;
  declaration = is_yes (option_and_then as_flag picks.declaration);
  low = picks.low;
  high = picks.high;
  ranges = picks.ranges;
  origin = option_and_then (as_reference sections unit) picks.origin;
  spec = option_and_then (as_reference sections unit) picks.spec;
  name = text_by sections unit base picks.name;
  name_elsewhere = is_elsewhere sections picks.name;
  linkage = or_else (text_by sections unit base picks.linkage) (text_by sections unit base picks.old_linkage);
  call_file = option_and_then as_number picks.call_file;
  call_line = line_of (option_and_then as_number picks.call_line);
}

unfoldable pub root_by : DebugSections → Unit → ℕ → PickFields → RootFields
root_by sections unit at picks = record {
  at = at;
  low = picks.low;
  stmt_list = if sections.is_sup then None else option_and_then as_place picks.stmt_list;
  comp_dir = text_by sections unit (base_by picks) picks.comp_dir;
  str_offsets_base = base_by picks;
  addr_base = option_and_then as_place picks.addr_base;
  rnglists_base = option_and_then as_place picks.rnglists_base;
}
