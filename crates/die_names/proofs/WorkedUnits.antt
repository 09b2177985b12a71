-- Worked examples: the names of entries, from the bytes of `.debug_info` and `.debug_abbrev`.
use Rattle.std.proofs.Common.{◌≡◌, ℕ, false, None, List, [], ◌∷◌, map, codes, Result, Ok, rules}
use Prim.Native.String.{String}
use Rattle.sym_edges.proofs.Hex.{hex}
use Rattle.sym_edges.specs.Results.{◌>>=◌}
use Rattle.sym_edges.specs.declared.located.Located.{Located}
use Rattle.abbrev_units.specs.declared.fault.DwarfKind.{DwarfKind}
use Rattle.abbrev_units.specs.declared.unit.Unit.{Unit}
use Rattle.abbrev_units.specs.DebugSections.{DebugSections}
use Rattle.abbrev_units.specs.Abbreviations.{abbrevs_of}
use Rattle.abbrev_units.specs.Units.{units_in}
use Rattle.die_walk.specs.EntryTable.{DieFields, EntryTable, entry_table}
use Rattle.die_walk.proofs.Computing.{die_walk_computes}
use Rattle.debug_units.specs.declared.unit_read.UnitRead.{UnitRead}
use Rattle.die_names.specs.Names.{entry_name}
use Rattle.abbrev_units.specs.UnitPlaces.{read_units}
use Rattle.die_names.proofs.Computing.{die_names_computes}
use Rattle.debug_units.proofs.MadeUnits.{bare_unit}

-- The codes of the abbreviations. 1: a unit with children. 2: a subprogram with a name. 3: a
-- subprogram with DW_AT_abstract_origin by DW_FORM_ref_addr. 4: a variable with a name. 5: a
-- lexical block with children. 6: an enumeration with children and a name. 7: a class with children
-- and a name. 8: a subprogram with DW_AT_MIPS_linkage_name. 9: a subprogram with
-- DW_AT_MIPS_linkage_name and then DW_AT_linkage_name.
unfoldable sections : String → DebugSections
unfolding hex
sections info = record {
  info = hex info;
  abbrevs = hex "01 11 01 00 00 02 2e 00 03 08 00 00 03 2e 00 31 10 00 00 04 34 00 03 08 00 00 05 0b 01 00 00 06 04 01 03 08 00 00 07 02 01 03 08 00 00 08 2e 00 8740 08 00 00 09 2e 00 8740 08 6e 08 00 00 00";
  line = [];
  line_str = [];
  strs = [];
  str_offsets = [];
  addr = [];
  ranges = [];
  rnglists = [];
  sup_strs = None;
  is_sup = false;
}

unfoldable part : EntryTable → UnitRead
part table = record (bare_unit [] (map (λ (d : DieFields). []) table.dies)) { die = table }

unfoldable parts : DebugSections → List Unit → Result (List UnitRead) (Located DwarfKind)
parts s [] = Ok []
parts s (unit ∷ units) =
    abbrevs_of s unit >>= λ abbrevs. entry_table s unit abbrevs >>= λ table. parts s units >>= λ later. Ok (part table ∷ later)

-- The name of an entry, given the number of its unit among those that are read, and its number
-- among the entries that are kept.
unfoldable name_in : String → ℕ → ℕ → Result (List ℕ) (Located DwarfKind)
name_in info unit entry =
    units_in (sections info).info >>= λ units. parts (sections info) (read_units units) >>= λ read. Ok (entry_name read unit entry)

record Named : Type 0 where
  -- A subprogram `f` in a unit of version 4, to which an entry of the next unit is linked.
  into_a_read_unit : name_in "0a000000 0400 00000000 08 02 6600 0c000000 0400 00000000 08 03 0b000000" 1 0 ≡ Ok (codes "f")
  -- The same with a unit of version 3, which is skipped.
  into_a_skipped_unit : name_in "0a000000 0300 00000000 08 02 6600 0c000000 0400 00000000 08 03 0b000000" 0 0 ≡ Ok (codes "<name omitted>")
  -- The same with a type unit of version 5, which is passed.
  into_a_passed_unit : name_in "17000000 0500 02 08 00000000 0102030405060708 18000000 02 6600 0c000000 0400 00000000 08 03 18000000" 0 0 ≡ Ok (codes "<name omitted>")
  -- A variable is not kept.
  to_a_variable : name_in "11000000 0400 00000000 08 01 04 7600 03 0c000000 00" 0 1 ≡ Ok (codes "<name omitted>")
  -- Lexical blocks and enumerations around a function give no prefix.
  blocks_around : name_in "16000000 0400 00000000 08 01 07 4300 05 06 6500 02 6600 00 00 00 00" 0 2 ≡ Ok (codes "C::f")
  mips_alone : name_in "0a000000 0400 00000000 08 08 6d00" 0 0 ≡ Ok (codes "m")
  mips_beside : name_in "0c000000 0400 00000000 08 09 6d00 6c00" 0 0 ≡ Ok (codes "l")

named : Named
unfolding die_walk_computes die_names_computes name_in parts part sections
named = search rules
