-- Worked examples: the attributes of entries, by the classes of their values (DWARF 5, 7.5.4 and
-- table 7.5).
use Rattle.std.proofs.Common.{◌≡◌, ℕ, true, false, pos, negsuc, List, [], ◌∷◌, Some, None, codes, rules}
use Rattle.sym_edges.proofs.Hex.{hex}
use Rattle.abbrev_units.specs.declared.unit.Unit.{Unit}
use Rattle.abbrev_units.specs.declared.unit.UnitPart.TheVariants as part
use Rattle.abbrev_units.specs.declared.value.Value.{Value}
use Rattle.abbrev_units.specs.declared.value.Value.TheVariants as value
use Rattle.abbrev_units.specs.declared.value.Given.{Given}
use Rattle.abbrev_units.specs.DebugSections.{DebugSections}
use Rattle.die_walk.specs.EntryTable.{DieFields, RootFields, die_of, root_of}
use Rattle.die_walk.proofs.Computing.{die_walk_computes}

unfoldable sections : DebugSections
unfolding hex
sections = record {
  info = hex "6465666768 00 6a6b";
  abbrevs = [];
  line = [];
  line_str = [];
  strs = hex "6162 00 6364 00";
  str_offsets = hex "05000000 00000000 03000000";
  addr = [];
  ranges = [];
  rnglists = [];
  sup_strs = None;
  is_sup = false;
}

unfoldable unit : Unit
unit = record { start = 0x20; body = 0x2b; end = 0x40; version = 4; abbrev_at = 0; part = part.Read; wide = false }

abbrev given : ℕ → Value → Given
given attribute value = record { attribute = attribute; value = value }

-- An entry with these values, in a unit whose str_offsets_base is 4; and a root.
unfoldable die : List Given → DieFields
die values = die_of sections unit (Some 4) (record { item = record { at = 0x2b; depth = 0; tag = 0x2e; values = values }; parent = None })

unfoldable root : List Given → RootFields
root values = root_of sections unit (record { at = 0x2b; depth = 0; tag = 0x11; values = values })

-- The same in a file whose supplementary file has the texts `xy` and `z`, of which the last is cut
-- off; and in a supplementary file.
unfoldable with_sup : DebugSections
unfolding hex sections
with_sup = record sections { sup_strs = Some (hex "7879 00 7a") }

unfoldable die_with_sup : List Given → DieFields
die_with_sup values = die_of with_sup unit (Some 4) (record { item = record { at = 0x2b; depth = 0; tag = 0x2e; values = values }; parent = None })

unfoldable die_in_sup : List Given → DieFields
die_in_sup values = die_of (record sections { is_sup = true }) unit (Some 4) (record { item = record { at = 0x2b; depth = 0; tag = 0x2e; values = values }; parent = None })

-- Each attribute with a value of each of its classes, with a value of another class, and twice,
-- when the first value counts.
record Attributes : Type 0 where
  low : (die (given 0x11 (value.Addr 0x1000) ∷ [])).low ≡ Some (value.Addr 0x1000)
  low_by_number : (die (given 0x11 (value.AddrIndex 3) ∷ [])).low ≡ Some (value.AddrIndex 3)
  low_of_another_class : (die (given 0x11 (value.Num 3) ∷ [])).low ≡ None
  low_twice : (die (given 0x11 (value.Num 3) ∷ given 0x11 (value.Addr 4) ∷ [])).low ≡ None
  no_low : (die (given 0x12 (value.Addr 4) ∷ [])).low ≡ None
  high_addr : (die (given 0x12 (value.Addr 0x1000) ∷ [])).high ≡ Some (value.Addr 0x1000)
  high_addrindex : (die (given 0x12 (value.AddrIndex 3) ∷ [])).high ≡ Some (value.AddrIndex 3)
  high_num : (die (given 0x12 (value.Num 16) ∷ [])).high ≡ Some (value.Num 16)
  high_signed : (die (given 0x12 (value.Signed (negsuc 3)) ∷ [])).high ≡ Some (value.Signed (negsuc 3))
  high_of_another_class : (die (given 0x12 (value.SecOffset 3) ∷ [])).high ≡ None
  ranges_secoffset : (die (given 0x55 (value.SecOffset 3) ∷ [])).ranges ≡ Some (value.SecOffset 3)
  ranges_num : (die (given 0x55 (value.Num 3) ∷ [])).ranges ≡ Some (value.Num 3)
  ranges_listindex : (die (given 0x55 (value.ListIndex 3) ∷ [])).ranges ≡ Some (value.ListIndex 3)
  ranges_of_another_class : (die (given 0x55 (value.Signed (pos 3)) ∷ [])).ranges ≡ None
  -- References count from the start of the unit, which is 20, or from the start of the section.
  origin : (die (given 0x31 (value.UnitRef 0xb) ∷ [])).origin ≡ Some 0x2b
  origin_in_the_section : (die (given 0x31 (value.InfoRef 0xb) ∷ [])).origin ≡ Some 0xb
  origin_beyond_u64 : (die (given 0x31 (value.UnitRef 0xffffffffffffffe0) ∷ [])).origin ≡ None
  -- A file has at most 2^29 bytes, so a reference beyond that leads to no entry.
  past_the_file : (die (given 0x31 (value.UnitRef 0xffffffffffffffdf) ∷ [])).origin ≡ Some 0x80000000
  the_last_place : (die (given 0x31 (value.InfoRef 0x1fffffff) ∷ [])).origin ≡ Some 0x1fffffff
  behind_the_last_place : (die (given 0x31 (value.InfoRef 0x20000000) ∷ [])).origin ≡ Some 0x80000000
  behind_the_last_place_by_the_unit : (die (given 0x31 (value.UnitRef 0x1fffffe0) ∷ [])).origin ≡ Some 0x80000000
  origin_of_another_class : (die (given 0x31 (value.Num 3) ∷ given 0x31 (value.UnitRef 3) ∷ [])).origin ≡ None
  specification : (die (given 0x47 (value.UnitRef 1) ∷ given 0x31 (value.UnitRef 2) ∷ [])).spec ≡ Some 0x21
  specification_of_another_class : (die (given 0x47 (value.SecOffset 1) ∷ [])).spec ≡ None
  declared : (die (given 0x3c (value.Flag true) ∷ [])).declaration ≡ true
  declared_not : (die (given 0x3c (value.Flag false) ∷ [])).declaration ≡ false
  declared_by_no_flag : (die (given 0x3c (value.Num 1) ∷ [])).declaration ≡ false
  declared_nowhere : (die ([])).declaration ≡ false
  name : (die (given 0x03 (value.StrAt 0) ∷ [])).name ≡ Some (codes "ab")
  name_in_place : (die (given 0x03 (value.InlineText 2) ∷ [])).name ≡ Some (codes "fgh")
  name_of_another_class : (die (given 0x03 (value.Num 0) ∷ given 0x03 (value.StrAt 0) ∷ [])).name ≡ None
  name_by_number : (die (given 0x03 (value.StrIndex 1) ∷ [])).name ≡ Some (codes "cd")
  name_elsewhere : (die (given 0x03 (value.SupStrAt 0) ∷ [])).name_elsewhere ≡ true
  no_text_elsewhere : (die (given 0x03 (value.SupStrAt 0) ∷ [])).name ≡ None
  name_here : (die (given 0x03 (value.StrAt 0) ∷ given 0x03 (value.SupStrAt 0) ∷ [])).name_elsewhere ≡ false
  no_name_at_all : (die (given 0x6e (value.SupStrAt 0) ∷ [])).name_elsewhere ≡ false
  -- The linkage name, or else the older attribute.
  linkage : (die (given 0x6e (value.StrAt 0) ∷ [])).linkage ≡ Some (codes "ab")
  linkage_by_the_older_name : (die (given 0x2007 (value.StrAt 3) ∷ [])).linkage ≡ Some (codes "cd")
  linkage_by_both : (die (given 0x2007 (value.StrAt 3) ∷ given 0x6e (value.StrAt 0) ∷ [])).linkage ≡ Some (codes "ab")
  linkage_of_another_class : (die (given 0x6e (value.Num 0) ∷ given 0x2007 (value.StrAt 3) ∷ [])).linkage ≡ Some (codes "cd")
  linkage_that_is_not_found : (die (given 0x6e (value.StrAt 99) ∷ given 0x2007 (value.StrAt 3) ∷ [])).linkage ≡ Some (codes "cd")
  linkage_that_is_empty : (die (given 0x6e (value.StrAt 2) ∷ given 0x2007 (value.StrAt 3) ∷ [])).linkage ≡ Some []
  call_file : (die (given 0x58 (value.Num 7) ∷ [])).call_file ≡ Some 7
  call_file_below_0 : (die (given 0x58 (value.Signed (negsuc 0)) ∷ [])).call_file ≡ Some 0xffffffffffffffff
  call_file_of_another_class : (die (given 0x58 (value.SecOffset 7) ∷ [])).call_file ≡ None
  call_line : (die (given 0x59 (value.Num 0x100000007) ∷ [])).call_line ≡ 7
  call_line_below_0 : (die (given 0x59 (value.Signed (negsuc 0)) ∷ [])).call_line ≡ 0xffffffff
  no_call_line : (die ([])).call_line ≡ 0

attributes : Attributes
unfolding die_walk_computes die unit sections
attributes = search rules

-- The attributes of the root.
record Roots : Type 0 where
  root_low : (root (given 0x11 (value.Addr 0x1000) ∷ [])).low ≡ Some (value.Addr 0x1000)
  line_table : (root (given 0x10 (value.SecOffset 5) ∷ [])).stmt_list ≡ Some 5
  line_table_by_a_number : (root (given 0x10 (value.Num 5) ∷ [])).stmt_list ≡ Some 5
  line_table_of_another_class : (root (given 0x10 (value.Signed (pos 5)) ∷ [])).stmt_list ≡ None
  folder : (root (given 0x1b (value.StrAt 0) ∷ [])).comp_dir ≡ Some (codes "ab")
  folder_by_number : (root (given 0x1b (value.StrIndex 1) ∷ given 0x72 (value.SecOffset 4) ∷ [])).comp_dir ≡ Some (codes "cd")
  bases : (root (given 0x72 (value.SecOffset 4) ∷ given 0x73 (value.SecOffset 8) ∷ given 0x74 (value.SecOffset 12) ∷ [])).addr_base ≡ Some 8
  base_of_lists : (root (given 0x72 (value.SecOffset 4) ∷ given 0x73 (value.SecOffset 8) ∷ given 0x74 (value.Num 12) ∷ [])).rnglists_base ≡ Some 12
  base_of_texts : (root (given 0x72 (value.SecOffset 4) ∷ given 0x72 (value.SecOffset 8) ∷ [])).str_offsets_base ≡ Some 4

roots : Roots
unfolding die_walk_computes root unit sections
roots = search rules

-- References into a supplementary file that was not read, and into one that was read; a
-- supplementary file has none itself.
record Supplements : Type 0 where
  sup_reference_alone : (die (given 0x31 (value.SupRefAt 0x10) ∷ [])).origin ≡ None
  sup_reference : (die_with_sup (given 0x31 (value.SupRefAt 0x10) ∷ [])).origin ≡ Some 0x20000010
  sup_declaration : (die_with_sup (given 0x47 (value.SupRefAt 0x10) ∷ [])).spec ≡ Some 0x20000010
  past_the_sup_file : (die_with_sup (given 0x31 (value.SupRefAt 0x20000000) ∷ [])).origin ≡ Some 0x80000000
  past_the_file_beside_a_sup_file : (die_with_sup (given 0x31 (value.InfoRef 0x20000000) ∷ [])).origin ≡ Some 0x80000000
  own_reference_with_sup : (die_with_sup (given 0x31 (value.UnitRef 0x10) ∷ [])).origin ≡ Some 0x30
  sup_reference_in_sup : (die_in_sup (given 0x31 (value.SupRefAt 0x10) ∷ [])).origin ≡ None
  own_reference_in_sup : (die_in_sup (given 0x31 (value.UnitRef 0x10) ∷ [])).origin ≡ Some 0x20000030
  -- Places are counted through the file and its supplementary file.
  place_in_sup : (die_in_sup []).at ≡ 0x2000002b
  place_with_sup : (die_with_sup []).at ≡ 0x2b
  -- Names in a supplementary file that was read.
  sup_name : (die_with_sup (given 0x03 (value.SupStrAt 1) ∷ [])).name ≡ Some (codes "y")
  sup_name_is_here : (die_with_sup (given 0x03 (value.SupStrAt 1) ∷ [])).name_elsewhere ≡ false
  sup_name_cut : (die_with_sup (given 0x03 (value.SupStrAt 3) ∷ [])).name ≡ None
  sup_linkage : (die_with_sup (given 0x6e (value.SupStrAt 0) ∷ [])).linkage ≡ Some (codes "xy")
  sup_name_in_sup : (die_in_sup (given 0x03 (value.SupStrAt 0) ∷ [])).name_elsewhere ≡ true

supplements : Supplements
unfolding die_walk_computes die die_with_sup die_in_sup with_sup unit sections
supplements = search rules
