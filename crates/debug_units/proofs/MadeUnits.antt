-- Entries and units for worked examples.
use Rattle.std.proofs.Common.{ℕ, false, List, [], None}
use Rattle.sym_edges.specs.Addresses.{Range}
use Rattle.die_walk.specs.EntryTable.{DieFields}
use Rattle.debug_units.specs.declared.unit_read.UnitRead.{UnitRead}

-- An entry with this tag and no attributes.
abbrev pub bare_entry : ℕ → DieFields
bare_entry tag = record {
  at = 0;
  tag = tag;
  parent = None;
  declaration = false;
  low = None;
  high = None;
  ranges = None;
  origin = None;
  spec = None;
  name = None;
  name_elsewhere = false;
  linkage = None;
  call_file = None;
  call_line = 0;
}

-- A unit with these entries and their addresses, without lines.
abbrev pub bare_unit : List DieFields → List (List Range) → UnitRead
bare_unit dies sets = record {
  die = record { root = record { at = 0; low = None; stmt_list = None; comp_dir = None; str_offsets_base = None; addr_base = None; rnglists_base = None }; dies = dies };
  spans = sets;
  lines = record { lines = record { stops = []; values = [] }; first = 0; paths = [] };
}
