-- Worked examples: the entries of a unit, their parents, and the first fault (DWARF 5, 7.5.2).
use Rattle.std.proofs.Common.{◌≡◌, ℕ, false, List, [], ◌∷◌, map, Option, Some, None, codes, Result, Ok, Err, rules}
use Prim.Native.String.{String}
use Rattle.sym_edges.proofs.Hex.{hex}
use Rattle.sym_edges.specs.Results.{◌>>=◌}
use Rattle.sym_edges.specs.declared.part.Sect.TheVariants as section
use Rattle.sym_edges.specs.declared.located.Located.{Located}
use Rattle.abbrev_units.specs.declared.fault.DwarfKind.{DwarfKind}
use Rattle.abbrev_units.specs.declared.fault.DwarfKind.TheVariants as is
use Rattle.abbrev_units.specs.declared.unit.Unit.{Unit}
use Rattle.abbrev_units.specs.DebugSections.{DebugSections}
use Rattle.abbrev_units.specs.Units.{units_in}
use Rattle.abbrev_units.specs.Abbreviations.{abbrevs_of}
use Rattle.die_walk.specs.EntryTable.{DieFields, EntryTable, entry_table}
use Rattle.die_walk.proofs.Computing.{die_walk_computes}

-- A file with these two sections. Its texts `ab` and `cd` have the indices 0 and 1, after a header
-- of four bytes.
unfoldable sections : String → String → DebugSections
unfolding hex
sections info abbrevs = record {
  info = hex info;
  abbrevs = hex abbrevs;
  line = [];
  line_str = [];
  strs = hex "6162 00 6364 00";
  str_offsets = hex "05000000 00000000 03000000";
  addr = [];
  ranges = [];
  rnglists = [];
  sup_strs = None;
  is_sup = false;
}

-- The table of the first unit.
unfoldable table_of_first : DebugSections → List Unit → Result EntryTable (Located DwarfKind)
table_of_first s [] = Err (record { kind = is.Ends; section = section.Text; at = 0 })
table_of_first s (unit ∷ units) = abbrevs_of s unit >>= λ abbrevs. entry_table s unit abbrevs

unfoldable table : DebugSections → Result EntryTable (Located DwarfKind)
table s = units_in s.info >>= λ units. table_of_first s units

-- The place, the tag and the parent of an entry.
unfoldable seen : DieFields → ℕ × ℕ × Option ℕ
seen die = (die.at, die.tag, die.parent)

unfoldable walked : String → String → Result (List (ℕ × ℕ × Option ℕ)) (Located DwarfKind)
walked info abbrevs = table (sections info abbrevs) >>= λ t. Ok (map {B = ℕ × ℕ × Option ℕ} seen t.dies)

-- The names of the entries.
unfoldable named : String → String → Result (List (Option (List ℕ))) (Located DwarfKind)
named info abbrevs = table (sections info abbrevs) >>= λ t. Ok (map (λ (d : DieFields). d.name) t.dies)

record Entries : Type 0 where
  -- A subprogram with one attribute of four bytes.
  one_entry : walked "0c000000 0400 00000000 08 01 00000000" "01 2e 00 3b 06 00 00 00" ≡ Ok ((0xb, 0x2e, None) ∷ [])
  -- A code without an abbreviation is a fault at the entry.
  no_abbreviation : walked "0c000000 0400 00000000 08 02 00000000" "01 2e 00 3b 06 00 00 00" ≡ Err (record { kind = is.NoAbbrev; section = section.Info; at = 11 })
  -- An unknown form is a fault where its value would begin.
  an_unknown_form : walked "0c000000 0400 00000000 08 01 00000000" "01 2e 00 3b 02 00 00 00" ≡ Err (record { kind = is.UnknownForm; section = section.Info; at = 12 })
  a_value_that_leaves_the_unit : walked "0c000000 0400 00000000 08 01 00000000" "01 2e 00 3b 07 00 00 00" ≡ Err (record { kind = is.Ends; section = section.Info; at = 12 })
  -- The bytes of the next unit are not read.
  a_value_that_leaves_the_unit_and_not_the_section : walked "0c000000 0400 00000000 08 01 00000000 07000000 0400 00000000 08" "01 2e 00 3b 07 00 00 00" ≡ Err (record { kind = is.Ends; section = section.Info; at = 12 })
  a_cut_code : walked "08000000 0400 00000000 08 81" "01 2e 00 3b 06 00 00 00" ≡ Err (record { kind = is.Ends; section = section.Info; at = 11 })
  a_long_code : walked "12000000 0400 00000000 08 80808080 80808080 8080 00" "01 2e 00 3b 06 00 00 00" ≡ Err (record { kind = is.LebLong; section = section.Info; at = 11 })
  a_text_without_a_zero : walked "0a000000 0400 00000000 08 01 6162" "01 2e 00 03 08 00 00 00" ≡ Err (record { kind = is.NoZero; section = section.Info; at = 12 })
  -- A fault also counts in an entry that is not kept.
  a_fault_of_an_entry_that_is_not_kept : walked "0b000000 0400 00000000 08 01 02 0000" "01 11 01 00 00 02 34 00 3b 06 00 00 00" ≡ Err (record { kind = is.Ends; section = section.Info; at = 13 })
  -- A unit in the 64-bit format.
  a_wide_unit : walked "ffffffff 10000000 00000000 0400 00000000 00000000 08 01 00000000" "01 2e 00 3b 06 00 00 00" ≡ Ok ((0x17, 0x2e, None) ∷ [])
  a_wide_unit_with_a_value_that_is_cut : walked "ffffffff 10000000 00000000 0400 00000000 00000000 08 01 00000000" "01 2e 00 3b 07 00 00 00" ≡ Err (record { kind = is.Ends; section = section.Info; at = 24 })

entries : Entries
unfolding die_walk_computes walked table table_of_first seen sections
entries = search rules

record Trees : Type 0 where
  -- The parent is the nearest kept ancestor; blocks and variables may be between the two.
  nested : walked "12000000 0400 00000000 08 01 02 03 04 05 06 00 05 00 00 00" "01 11 01 00 00 02 39 01 00 00 03 2e 01 00 00 04 0b 01 00 00 05 1d 00 00 00 06 34 00 00 00 00" ≡ Ok ((0xb, 0x11, None) ∷ (0xc, 0x39, Some 0) ∷ (0xd, 0x2e, Some 1) ∷ (0xf, 0x1d, Some 2) ∷ (0x12, 0x1d, Some 2) ∷ [])
  -- The siblings of an entry come after its children.
  brothers : walked "10000000 0400 00000000 08 01 02 05 00 02 05 00 05 00" "01 11 01 00 00 02 39 01 00 00 03 2e 01 00 00 04 0b 01 00 00 05 1d 00 00 00 06 34 00 00 00 00" ≡ Ok ((0xb, 0x11, None) ∷ (0xc, 0x39, Some 0) ∷ (0xd, 0x1d, Some 1) ∷ (0xf, 0x39, Some 0) ∷ (0x10, 0x1d, Some 3) ∷ (0x12, 0x1d, Some 0) ∷ [])
  -- Lists of children may be open at the end of the unit.
  open_levels : walked "0a000000 0400 00000000 08 01 02 03" "01 11 01 00 00 02 39 01 00 00 03 2e 01 00 00 04 0b 01 00 00 05 1d 00 00 00 06 34 00 00 00 00" ≡ Ok ((0xb, 0x11, None) ∷ (0xc, 0x39, Some 0) ∷ (0xd, 0x2e, Some 1) ∷ [])
  -- Zeros at the outermost level are padding.
  padding_in_front : walked "0e000000 0400 00000000 08 00 00 05 00 00 03 05" "01 11 01 00 00 02 39 01 00 00 03 2e 01 00 00 04 0b 01 00 00 05 1d 00 00 00 06 34 00 00 00 00" ≡ Ok ((0xd, 0x1d, None) ∷ (0x10, 0x2e, None) ∷ (0x11, 0x1d, Some 1) ∷ [])
  -- An entry after the root, at the same level, is not a child of the root.
  entries_behind_the_root : walked "0d000000 0400 00000000 08 01 00 03 05 00 06" "01 11 01 00 00 02 39 01 00 00 03 2e 01 00 00 04 0b 01 00 00 05 1d 00 00 00 06 34 00 00 00 00" ≡ Ok ((0xb, 0x11, None) ∷ (0xd, 0x2e, None) ∷ (0xe, 0x1d, Some 1) ∷ [])
  below_an_entry_that_is_not_kept : walked "0c000000 0400 00000000 08 01 00 04 05 00" "01 11 01 00 00 02 39 01 00 00 03 2e 01 00 00 04 0b 01 00 00 05 1d 00 00 00 06 34 00 00 00 00" ≡ Ok ((0xb, 0x11, None) ∷ (0xe, 0x1d, None) ∷ [])
  -- The root is kept, whatever its tag is.
  a_root_of_another_tag : walked "08000000 0400 00000000 08 06" "01 11 01 00 00 02 39 01 00 00 03 2e 01 00 00 04 0b 01 00 00 05 1d 00 00 00 06 34 00 00 00 00" ≡ Ok ((0xb, 0x34, None) ∷ [])
  -- A unit without entries has a root with the tag 0, where its entries would begin.
  no_entry : walked "07000000 0400 00000000 08" "01 11 01 00 00 02 39 01 00 00 03 2e 01 00 00 04 0b 01 00 00 05 1d 00 00 00 06 34 00 00 00 00" ≡ Ok ((0xb, 0, None) ∷ [])
  padding_alone : walked "09000000 0400 00000000 08 0000" "01 11 01 00 00 02 39 01 00 00 03 2e 01 00 00 04 0b 01 00 00 05 1d 00 00 00 06 34 00 00 00 00" ≡ Ok ((0xb, 0, None) ∷ [])

trees : Trees
unfolding die_walk_computes walked table table_of_first seen sections
trees = search rules

record Names : Type 0 where
  -- The name of the root, given by index: the base in `.debug_str_offsets` comes after it, or
  -- before it.
  name_before_its_base : named "0f000000 0400 00000000 08 01 01 04000000 02 00" "01 11 01 03 1a 72 17 00 00 02 2e 00 03 1a 00 00 00" ≡ Ok (Some (codes "cd") ∷ Some (codes "ab") ∷ [])
  name_behind_its_base : named "0f000000 0400 00000000 08 01 04000000 01 02 00" "01 11 01 72 17 03 1a 00 00 02 2e 00 03 1a 00 00 00" ≡ Ok (Some (codes "cd") ∷ Some (codes "ab") ∷ [])
  name_without_a_base : named "09000000 0400 00000000 08 01 01" "01 11 00 03 1a 00 00 00" ≡ Ok (None ∷ [])

names : Names
unfolding die_walk_computes named table table_of_first sections
names = search rules
