-- Worked examples: the addresses of entries (DWARF 5, 2.17; DWARF 4, 2.17).
use Rattle.std.proofs.Common.{◌≡◌, ℕ, Bool, true, false, pos, negsuc, List, [], ◌∷◌, map, Option, Some, None, Result, Ok, Err, refl}
use Rattle.sym_edges.proofs.Hex.{hex}
use Rattle.sym_edges.specs.Addresses.{Range}
use Rattle.sym_edges.specs.declared.part.Sect.TheVariants as section
use Rattle.sym_edges.specs.declared.located.Located.{Located}
use Rattle.abbrev_units.specs.declared.fault.DwarfKind.{DwarfKind}
use Rattle.abbrev_units.specs.declared.fault.DwarfKind.TheVariants as is
use Rattle.abbrev_units.specs.declared.unit.Unit.{Unit}
use Rattle.abbrev_units.specs.declared.unit.UnitPart.TheVariants as part
use Rattle.abbrev_units.specs.declared.value.Value.{Value}
use Rattle.abbrev_units.specs.declared.value.Value.TheVariants as value
use Rattle.abbrev_units.specs.DebugSections.{DebugSections}
use Rattle.die_walk.specs.EntryTable.{DieFields, RootFields}
use Rattle.range_lists.specs.EntryRanges.{unit_base, pairs_of, in_ranges, place_of_list}
use Rattle.range_lists.proofs.Computing.{range_lists_computes}

-- `.debug_addr` has a header of eight bytes, the address 0x5000 and seven bytes of another address.
-- `.debug_rnglists` has a header of twelve bytes, then the offsets of two lists, counted from
-- there, as two numbers of four bytes or as one number of eight, and then the lists.
-- `.debug_ranges` has a list of version 4.
unfoldable sections : DebugSections
unfolding hex
sections = record {
  info = [];
  abbrevs = [];
  line = [];
  line_str = [];
  strs = [];
  str_offsets = [];
  addr = hex "14000000 05000800 0050000000000000 00600000000000";
  ranges = hex "1000000000000000 2000000000000000 0000000000000000 0000000000000000";
  rnglists = hex "00000000 05000800 02000000 08000000 0c000000 04 10 20 00 04 30 40 00";
  sup_strs = None;
  is_sup = false;
}

unfoldable unit : ℕ → Bool → Unit
unit version wide = record { start = 0x20; body = 0x2b; end = 0x40; version = version; abbrev_at = 0; part = part.Read; wide = wide }

unfoldable root : RootFields
root = record {
  at = 0x2b;
  low = Some (value.Addr 0x1000);
  stmt_list = None;
  comp_dir = None;
  str_offsets_base = None;
  addr_base = Some 8;
  rnglists_base = Some 12;
}

-- A subprogram with these attributes and no others.
unfoldable die : Option Value → Option Value → Option Value → DieFields
die low high ranges = record {
  at = 0x2a;
  tag = 0x2e;
  parent = Some 0;
  declaration = false;
  low = low;
  high = high;
  ranges = ranges;
  origin = None;
  spec = None;
  name = None;
  name_elsewhere = false;
  linkage = None;
  call_file = None;
  call_line = 0;
}

-- The pairs of an entry in a unit of version 5, and in a unit of version 4.
unfoldable pairs_5 : DieFields → Result (List Range) (Located DwarfKind)
pairs_5 d = pairs_of sections (unit 5 false) root 0x1000 d

unfoldable pairs_4 : DieFields → Result (List Range) (Located DwarfKind)
pairs_4 d = pairs_of sections (unit 4 false) root 0x1000 d

abbrev pair : ℕ → ℕ → Range
pair start end = record { start = start; end = end }

abbrev outside : Located DwarfKind
outside = record { kind = is.OffsetOutside; section = section.Info; at = 0x2a }

abbrev no_base : Located DwarfKind
no_base = record { kind = is.NoBase; section = section.Info; at = 0x2a }

-- low_pc, and high_pc as an address, as the index of an address, as a length, and as a signed
-- length.
an_address : pairs_5 (die (Some (value.Addr 0x1000)) (Some (value.Addr 0x1010)) None) ≡ Ok (pair 0x1000 0x1010 ∷ [])
unfolding range_lists_computes pairs_5 unit root die sections
an_address = refl

a_number : pairs_5 (die (Some (value.Addr 0x1000)) (Some (value.AddrIndex 0)) None) ≡ Ok (pair 0x1000 0x5000 ∷ [])
unfolding range_lists_computes pairs_5 unit root die sections
a_number = refl

a_length : pairs_5 (die (Some (value.Addr 0x1000)) (Some (value.Num 0x10)) None) ≡ Ok (pair 0x1000 0x1010 ∷ [])
unfolding range_lists_computes pairs_5 unit root die sections
a_length = refl

a_length_of_0 : pairs_5 (die (Some (value.Addr 0x1000)) (Some (value.Num 0)) None) ≡ Ok (pair 0x1000 0x1000 ∷ [])
unfolding range_lists_computes pairs_5 unit root die sections
a_length_of_0 = refl

a_length_of_version_4 : pairs_4 (die (Some (value.Addr 0x1000)) (Some (value.Num 0x10)) None) ≡ Ok (pair 0x1000 0x1010 ∷ [])
unfolding range_lists_computes pairs_4 unit root die sections
a_length_of_version_4 = refl

a_length_with_a_sign : pairs_5 (die (Some (value.Addr 0x1000)) (Some (value.Signed (pos 0x10))) None) ≡ Ok (pair 0x1000 0x1010 ∷ [])
unfolding range_lists_computes pairs_5 unit root die sections
a_length_with_a_sign = refl

a_length_below_0 : pairs_5 (die (Some (value.Addr 0x1000)) (Some (value.Signed (negsuc 0xf))) None) ≡ Ok (pair 0x1000 0xff0 ∷ [])
unfolding range_lists_computes pairs_5 unit root die sections
a_length_below_0 = refl

a_length_that_wraps : pairs_5 (die (Some (value.Addr 0xfffffffffffffff0)) (Some (value.Num 0x20)) None) ≡ Ok (pair 0xfffffffffffffff0 0x10 ∷ [])
unfolding range_lists_computes pairs_5 unit root die sections
a_length_that_wraps = refl

low_by_its_number : pairs_5 (die (Some (value.AddrIndex 0)) (Some (value.Num 0x10)) None) ≡ Ok (pair 0x5000 0x5010 ∷ [])
unfolding range_lists_computes pairs_5 unit root die sections
low_by_its_number = refl

-- If one of the two is missing, the other is not looked up.
low_alone : pairs_5 (die (Some (value.AddrIndex 9)) None None) ≡ Ok []
unfolding range_lists_computes pairs_5 unit root die sections
low_alone = refl

high_alone : pairs_5 (die None (Some (value.AddrIndex 9)) None) ≡ Ok []
unfolding range_lists_computes pairs_5 unit root die sections
high_alone = refl

neither : pairs_5 (die None None None) ≡ Ok []
unfolding range_lists_computes pairs_5 unit root die sections
neither = refl

-- low_pc is looked up before high_pc.
low_outside : pairs_5 (die (Some (value.AddrIndex 3)) (Some (value.AddrIndex 1)) None) ≡ Err outside
unfolding range_lists_computes pairs_5 unit root die sections
low_outside = refl

low_that_is_cut : pairs_5 (die (Some (value.AddrIndex 1)) (Some (value.AddrIndex 3)) None) ≡ Err (record { kind = is.Ends; section = section.Addr; at = 16 })
unfolding range_lists_computes pairs_5 unit root die sections
low_that_is_cut = refl

high_outside : pairs_5 (die (Some (value.Addr 0)) (Some (value.AddrIndex 2)) None) ≡ Err outside
unfolding range_lists_computes pairs_5 unit root die sections
high_outside = refl

low_without_a_base : pairs_of sections (unit 5 false) (record root { addr_base = None }) 0x1000 (die (Some (value.AddrIndex 0)) (Some (value.Num 0x10)) None) ≡ Err no_base
unfolding range_lists_computes unit root die sections
low_without_a_base = refl

-- A place at the end of the section is no fault of the entry, but there are no bytes at it.
a_number_at_the_end : pairs_of sections (unit 5 false) (record root { addr_base = Some 23 }) 0x1000 (die (Some (value.AddrIndex 0)) (Some (value.Num 0x10)) None) ≡ Err (record { kind = is.Ends; section = section.Addr; at = 23 })
unfolding range_lists_computes unit root die sections
a_number_at_the_end = refl

a_number_behind_the_end : pairs_of sections (unit 5 false) (record root { addr_base = Some 24 }) 0x1000 (die (Some (value.AddrIndex 0)) (Some (value.Num 0x10)) None) ≡ Err outside
unfolding range_lists_computes unit root die sections
a_number_behind_the_end = refl

-- Places are not computed modulo 2^64.
a_number_far_behind_the_end : pairs_of sections (unit 5 false) (record root { addr_base = Some 0xfffffffffffffff8 }) 0x1000 (die (Some (value.AddrIndex 2)) (Some (value.Num 0x10)) None) ≡ Err outside
unfolding range_lists_computes unit root die sections
a_number_far_behind_the_end = refl

-- A list by its place. If there is a list, low_pc and high_pc are ignored.
a_list : pairs_5 (die None None (Some (value.SecOffset 20))) ≡ Ok (pair 0x1010 0x1020 ∷ [])
unfolding range_lists_computes pairs_5 unit root die sections
a_list = refl

a_list_by_a_constant : pairs_5 (die None None (Some (value.Num 24))) ≡ Ok (pair 0x1030 0x1040 ∷ [])
unfolding range_lists_computes pairs_5 unit root die sections
a_list_by_a_constant = refl

a_list_of_version_4 : pairs_4 (die None None (Some (value.SecOffset 0))) ≡ Ok (pair 0x1010 0x1020 ∷ [])
unfolding range_lists_computes pairs_4 unit root die sections
a_list_of_version_4 = refl

a_list_and_bounds : pairs_5 (die (Some (value.AddrIndex 9)) (Some (value.Num 0x10)) (Some (value.SecOffset 20))) ≡ Ok (pair 0x1010 0x1020 ∷ [])
unfolding range_lists_computes pairs_5 unit root die sections
a_list_and_bounds = refl

-- A place at the end of the section is no fault of the entry, but there is no list at it.
a_list_at_the_end : pairs_5 (die None None (Some (value.SecOffset 28))) ≡ Err (record { kind = is.Ends; section = section.Rnglists; at = 28 })
unfolding range_lists_computes pairs_5 unit root die sections
a_list_at_the_end = refl

a_list_behind_the_end : pairs_5 (die None None (Some (value.SecOffset 29))) ≡ Err outside
unfolding range_lists_computes pairs_5 unit root die sections
a_list_behind_the_end = refl

a_list_of_version_4_at_the_end : pairs_4 (die None None (Some (value.SecOffset 32))) ≡ Err (record { kind = is.Ends; section = section.Ranges; at = 32 })
unfolding range_lists_computes pairs_4 unit root die sections
a_list_of_version_4_at_the_end = refl

a_list_of_version_4_behind_the_end : pairs_4 (die None None (Some (value.SecOffset 33))) ≡ Err outside
unfolding range_lists_computes pairs_4 unit root die sections
a_list_of_version_4_behind_the_end = refl

-- A list by its index.
a_first_list : pairs_5 (die None None (Some (value.ListIndex 0))) ≡ Ok (pair 0x1010 0x1020 ∷ [])
unfolding range_lists_computes pairs_5 unit root die sections
a_first_list = refl

a_second_list : pairs_5 (die None None (Some (value.ListIndex 1))) ≡ Ok (pair 0x1030 0x1040 ∷ [])
unfolding range_lists_computes pairs_5 unit root die sections
a_second_list = refl

-- Before version 5 a list cannot be given by index, so low_pc and high_pc count.
a_number_of_version_4 : pairs_4 (die (Some (value.Addr 0x1000)) (Some (value.Num 0x10)) (Some (value.ListIndex 0))) ≡ Ok (pair 0x1000 0x1010 ∷ [])
unfolding range_lists_computes pairs_4 unit root die sections
a_number_of_version_4 = refl

a_list_without_a_base : pairs_of sections (unit 5 false) (record root { rnglists_base = None }) 0x1000 (die (Some (value.Addr 0x1000)) (Some (value.Num 0x10)) (Some (value.ListIndex 0))) ≡ Err no_base
unfolding range_lists_computes unit root die sections
a_list_without_a_base = refl

a_number_of_a_list_that_is_cut : pairs_5 (die None None (Some (value.ListIndex 4))) ≡ Err (record { kind = is.Ends; section = section.Rnglists; at = 28 })
unfolding range_lists_computes pairs_5 unit root die sections
a_number_of_a_list_that_is_cut = refl

a_number_of_a_list_outside : pairs_5 (die None None (Some (value.ListIndex 5))) ≡ Err outside
unfolding range_lists_computes pairs_5 unit root die sections
a_number_of_a_list_outside = refl

-- The offset at the index leads after the end of the section.
a_list_by_its_number_outside : pairs_5 (die None None (Some (value.ListIndex 2))) ≡ Err outside
unfolding range_lists_computes pairs_5 unit root die sections
a_list_by_its_number_outside = refl

-- In the 64-bit format offsets have eight bytes.
a_list_of_a_wide_unit : pairs_of (record sections { rnglists = hex "000000000000000000000000 0800000000000000 04 10 20 00" }) (unit 5 true) root 0x1000 (die None None (Some (value.ListIndex 0))) ≡ Ok (pair 0x1010 0x1020 ∷ [])
unfolding range_lists_computes unit root die sections
a_list_of_a_wide_unit = refl

a_number_of_a_wide_unit_that_is_cut : pairs_of (record sections { rnglists = hex "000000000000000000000000 0800000000000000 04 10 20 00" }) (unit 5 true) root 0x1000 (die None None (Some (value.ListIndex 1))) ≡ Err (record { kind = is.Ends; section = section.Rnglists; at = 20 })
unfolding range_lists_computes unit root die sections
a_number_of_a_wide_unit_that_is_cut = refl

-- Addresses have eight bytes in every unit.
an_address_of_a_wide_unit : pairs_of sections (unit 5 true) root 0x1000 (die (Some (value.AddrIndex 0)) (Some (value.Num 0x10)) None) ≡ Ok (pair 0x5000 0x5010 ∷ [])
unfolding range_lists_computes unit root die sections
an_address_of_a_wide_unit = refl

-- Entries that do not count give no addresses and no fault.
a_declaration : pairs_5 (record (die (Some (value.AddrIndex 9)) (Some (value.Num 0x10)) (Some (value.SecOffset 29))) { declaration = true }) ≡ Ok []
unfolding range_lists_computes pairs_5 unit root die sections
a_declaration = refl

a_namespace : pairs_5 (record (die None None (Some (value.SecOffset 29))) { tag = 0x39 }) ≡ Ok []
unfolding range_lists_computes pairs_5 unit root die sections
a_namespace = refl

a_unit : pairs_5 (record (die None None (Some (value.SecOffset 29))) { tag = 0x11 }) ≡ Ok []
unfolding range_lists_computes pairs_5 unit root die sections
a_unit = refl

-- An inlined subroutine counts, also with DW_AT_declaration.
an_inlined_subroutine : pairs_5 (record (die None None (Some (value.SecOffset 20))) { tag = 0x1d; declaration = true }) ≡ Ok (pair 0x1010 0x1020 ∷ [])
unfolding range_lists_computes pairs_5 unit root die sections
an_inlined_subroutine = refl

-- The base of a unit.
base_that_is_given : unit_base sections root ≡ Ok 0x1000
unfolding range_lists_computes root sections
base_that_is_given = refl

base_that_is_not_given : unit_base sections (record root { low = None }) ≡ Ok 0
unfolding range_lists_computes root sections
base_that_is_not_given = refl

base_by_its_number : unit_base sections (record root { low = Some (value.AddrIndex 0) }) ≡ Ok 0x5000
unfolding range_lists_computes root sections
base_by_its_number = refl

base_that_is_cut : unit_base sections (record root { low = Some (value.AddrIndex 1) }) ≡ Err (record { kind = is.Ends; section = section.Addr; at = 16 })
unfolding range_lists_computes root sections
base_that_is_cut = refl

base_outside : unit_base sections (record root { low = Some (value.AddrIndex 2) }) ≡ Err (record { kind = is.OffsetOutside; section = section.Info; at = 0x2b })
unfolding range_lists_computes root sections
base_outside = refl

base_without_a_base : unit_base sections (record root { low = Some (value.AddrIndex 0); addr_base = None }) ≡ Err (record { kind = is.NoBase; section = section.Info; at = 0x2b })
unfolding range_lists_computes root sections
base_without_a_base = refl

-- Which addresses the pairs give, if the code has the ranges from 0x1000 to 0x2000 and from 0x2000
-- to 0x3000.
unfoldable given : List Range → List ℕ → List (Result Bool (Located DwarfKind))
given pairs addresses = map (in_ranges (pair 0x1000 0x2000 ∷ pair 0x2000 0x3000 ∷ []) (Ok pairs)) addresses

-- A pair gives the addresses from its start on and below its end.
one_pair : given (pair 0x1010 0x1020 ∷ []) (0x100f ∷ 0x1010 ∷ 0x101f ∷ 0x1020 ∷ []) ≡ Ok false ∷ Ok true ∷ Ok true ∷ Ok false ∷ []
unfolding range_lists_computes given
one_pair = refl

an_empty_pair : given (pair 0x1000 0x1000 ∷ []) (0xfff ∷ 0x1000 ∷ 0x1001 ∷ []) ≡ Ok false ∷ Ok false ∷ Ok false ∷ []
unfolding range_lists_computes given
an_empty_pair = refl

a_pair_that_wraps : given (pair 0xffffffffffffffff 0x1f ∷ pair 0xf 0x1f ∷ []) (0xf ∷ 0x10 ∷ 0x1f ∷ 0xffffffffffffffff ∷ []) ≡ Ok false ∷ Ok false ∷ Ok false ∷ Ok false ∷ []
unfolding range_lists_computes given
a_pair_that_wraps = refl

-- A pair that leaves a range of code, or reaches across two, gives nothing; the other pairs count.
pairs_outside_code : given (pair 0xfff 0x1010 ∷ pair 0x1ff0 0x2010 ∷ pair 0x2ff0 0x3001 ∷ pair 0x1000 0x2000 ∷ []) (0xfff ∷ 0x1000 ∷ 0x1fff ∷ 0x2000 ∷ 0x2ff0 ∷ []) ≡ Ok false ∷ Ok true ∷ Ok true ∷ Ok false ∷ Ok false ∷ []
unfolding range_lists_computes given
pairs_outside_code = refl

-- Pairs that touch, that overlap, or that are in descending order.
pairs_that_touch : given (pair 0x1000 0x1010 ∷ pair 0x1010 0x1020 ∷ []) (0xfff ∷ 0x1000 ∷ 0x100f ∷ 0x1010 ∷ 0x101f ∷ 0x1020 ∷ []) ≡ Ok false ∷ Ok true ∷ Ok true ∷ Ok true ∷ Ok true ∷ Ok false ∷ []
unfolding range_lists_computes given
pairs_that_touch = refl

pairs_that_overlap : given (pair 0x1000 0x1018 ∷ pair 0x1010 0x1020 ∷ []) (0x1000 ∷ 0x1014 ∷ 0x101f ∷ 0x1020 ∷ []) ≡ Ok true ∷ Ok true ∷ Ok true ∷ Ok false ∷ []
unfolding range_lists_computes given
pairs_that_overlap = refl

pairs_in_falling_order : given (pair 0x2000 0x2010 ∷ pair 0x1000 0x1010 ∷ []) (0x1000 ∷ 0x1010 ∷ 0x1fff ∷ 0x2000 ∷ 0x2010 ∷ []) ≡ Ok true ∷ Ok false ∷ Ok false ∷ Ok true ∷ Ok false ∷ []
unfolding range_lists_computes given
pairs_in_falling_order = refl

-- The place of a list: given by place, given by index, and missing.
stands_at_its_place : place_of_list sections (unit 5 false) root (die None None (Some (value.SecOffset 20))) ≡ Some 20
unfolding range_lists_computes unit root die sections
stands_at_its_place = refl

stands_by_its_number : place_of_list sections (unit 5 false) root (die None None (Some (value.ListIndex 0))) ≡ Some 20
unfolding range_lists_computes unit root die sections
stands_by_its_number = refl

stands_nowhere : place_of_list sections (unit 5 false) root (die (Some (value.Addr 0x1000)) (Some (value.Num 0x10)) None) ≡ None
unfolding range_lists_computes unit root die sections
stands_nowhere = refl

declared_stands_nowhere : place_of_list sections (unit 5 false) root (record (die None None (Some (value.SecOffset 20))) { declaration = true }) ≡ None
unfolding range_lists_computes unit root die sections
declared_stands_nowhere = refl

without_a_base_stands_nowhere : place_of_list sections (unit 5 false) (record root { rnglists_base = None }) (die None None (Some (value.ListIndex 0))) ≡ None
unfolding range_lists_computes unit root die sections
without_a_base_stands_nowhere = refl
