-- The root and the kept entries of a unit, with their attributes (DWARF 5, 7.5.2 to 7.5.6).
use Rattle.std.specs.Prelude.{ℕ, ◌+◌, Bool, List, [], ◌∷◌, map, take, drop, if◌then◌else◌, Option, None, Result, Ok}
use Rattle.sym_edges.specs.Results.{◌>>=◌}
use Rattle.sym_edges.specs.declared.located.Located.{Located}
use Rattle.leb_cursor.specs.Ahead.{Ahead}
use Rattle.abbrev_units.specs.SpecFields.{Abbrev}
use Rattle.abbrev_units.specs.declared.fault.DwarfKind.{DwarfKind}
use Rattle.abbrev_units.specs.declared.unit.Unit.{Unit}
use Rattle.abbrev_units.specs.declared.value.Value.{Value}
use Rattle.abbrev_units.specs.DebugSections.{DebugSections, first_place}
use Rattle.abbrev_units.specs.declared.value.Given.{Given}
use Rattle.die_walk.specs.Marks.{Mark, marks_at}
use Rattle.die_walk.specs.EntryTree.{Item, Kept, items_from, kept_from, rooted}
use Rattle.abbrev_units.specs.Attributes.{first_of, picked, as_low, as_high, as_ranges, as_place, as_reference, as_flag, as_number, is_elsewhere, is_yes, line_of, or_else, text_in_entry}

-- a kept entry. `at` is its place, counted through the file and its supplementary file; `parent` is
-- the index of its nearest kept ancestor; `name_elsewhere` says that its name is in a supplementary
-- file that was not read
pub record DieFields : Type 0 where
  pub at : ℕ
  pub tag : ℕ
  pub parent : Option ℕ
  pub declaration : Bool
  pub low : Option Value
  pub high : Option Value
  pub ranges : Option Value
  pub origin : Option ℕ
  pub spec : Option ℕ
  pub name : Option (List ℕ)
  pub name_elsewhere : Bool
  pub linkage : Option (List ℕ)
  pub call_file : Option ℕ
  pub call_line : ℕ

-- the attributes of the root, which hold for the whole unit
pub record RootFields : Type 0 where
  pub at : ℕ
  pub low : Option Value
  pub stmt_list : Option ℕ
  pub comp_dir : Option (List ℕ)
  pub str_offsets_base : Option ℕ
  pub addr_base : Option ℕ
  pub rnglists_base : Option ℕ

pub record EntryTable : Type 0 where
  pub root : RootFields
  pub dies : List DieFields

-- DW_AT_str_offsets_base
abbrev pub base_of : List Given → Option ℕ
base_of values = picked as_place 0x72 values

-- DW_AT_linkage_name or, without it, DW_AT_MIPS_linkage_name
abbrev pub linkage_of : DebugSections → Unit → Option ℕ → List Given → Option (List ℕ)
linkage_of sections unit base values = or_else (text_in_entry sections unit base 0x6e values) (text_in_entry sections unit base 0x2007 values)

-- the attributes of a kept entry and of the root; the comments name each attribute without DW_AT_
unfoldable pub die_of : DebugSections → Unit → Option ℕ → Kept → DieFields
die_of sections unit base kept = record {
  at = first_place sections.is_sup + kept.item.at;
  tag = kept.item.tag;
  parent = kept.parent;
  declaration = is_yes (picked as_flag 0x3c kept.item.values);  -- declaration
  low = picked as_low 0x11 kept.item.values;  -- low_pc
  high = picked as_high 0x12 kept.item.values;  -- high_pc
  ranges = picked as_ranges 0x55 kept.item.values;  -- ranges
  origin = picked (as_reference sections unit) 0x31 kept.item.values;  -- abstract_origin
  spec = picked (as_reference sections unit) 0x47 kept.item.values;  -- specification
  name = text_in_entry sections unit base 0x03 kept.item.values;  -- name
  name_elsewhere = is_elsewhere sections (first_of 0x03 kept.item.values);
  linkage = linkage_of sections unit base kept.item.values;
  call_file = picked as_number 0x58 kept.item.values;  -- call_file
  call_line = line_of (picked as_number 0x59 kept.item.values);  -- call_line
}

unfoldable pub root_of : DebugSections → Unit → Item → RootFields
root_of sections unit item = record {
  at = item.at;
  low = picked as_low 0x11 item.values;  -- low_pc
  stmt_list = if sections.is_sup then None else picked as_place 0x10 item.values;  -- stmt_list: line tables of a supplementary file are not read
  comp_dir = text_in_entry sections unit (base_of item.values) 0x1b item.values;  -- comp_dir
  str_offsets_base = base_of item.values;
  addr_base = picked as_place 0x73 item.values;  -- addr_base
  rnglists_base = picked as_place 0x74 item.values;  -- rnglists_base
}

-- the table of a unit's entries; the first entry is the root
abbrev pub table_by : DebugSections → Unit → List Item → EntryTable
table_by sections unit [] = record { root = root_of sections unit (record { at = 0; depth = 0; tag = 0; values = [] }); dies = [] }
table_by sections unit (first ∷ items) = record {
  root = root_of sections unit first;
  dies = map (die_of sections unit (base_of first.values)) (kept_from [] (first ∷ items));
}

unfoldable pub table_of : DebugSections → Unit → List Mark → EntryTable
table_of sections unit marks = table_by sections unit (rooted unit.body (items_from 0 marks))

-- the bytes of a unit's entries: they begin after its header, and end where the unit ends
abbrev pub entries_ahead : DebugSections → Unit → Ahead
entries_ahead sections unit = record { bytes = drop unit.body (take unit.end sections.info); at = unit.body }

-- the table of a unit, or the first fault in its entries
unfoldable pub entry_table : DebugSections → Unit → List Abbrev → Result EntryTable (Located DwarfKind)
entry_table sections unit abbrevs = marks_at abbrevs (entries_ahead sections unit) >>= λ marks. Ok (table_of sections unit marks)
