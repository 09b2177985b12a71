-- Worked examples: the pairs that range lists give (DWARF 5, 2.17.3 and 7.25; DWARF 4, 2.17.3).
use Rattle.std.proofs.Common.{◌≡◌, ℕ, List, [], ◌∷◌, Some, None, Result, Ok, Err, refl}
use Prim.Native.String.{String}
use Rattle.sym_edges.proofs.Hex.{hex}
use Rattle.sym_edges.specs.Addresses.{Range}
use Rattle.sym_edges.specs.declared.part.Sect.TheVariants as section
use Rattle.sym_edges.specs.declared.located.Located.{Located}
use Rattle.abbrev_units.specs.declared.fault.DwarfKind.{DwarfKind}
use Rattle.abbrev_units.specs.declared.fault.DwarfKind.TheVariants as is
use Rattle.range_lists.specs.AddressTable.{AddressTable}
use Rattle.range_lists.specs.ListPairs.{list_pairs}
use Rattle.range_lists.proofs.Computing.{range_lists_computes}

-- The addresses 0x5000 and 0x6000 after a header of eight bytes, and three bytes of a third
-- address. The entry is at 0x2a.
unfoldable addresses : AddressTable
unfolding hex
addresses = record { bytes = hex "14000000 05000800 0050000000000000 0060000000000000 000000"; base = Some 8; at = 0x2a }

-- A list of version 5 at the place 0xc, with the base 0x1000; and a list of version 4.
unfoldable listed : String → Result (List Range) (Located DwarfKind)
unfolding hex
listed list = list_pairs 5 addresses 0x1000 (record { bytes = hex list; at = 0xc })

unfoldable paired : String → Result (List Range) (Located DwarfKind)
unfolding hex
paired list = list_pairs 4 addresses 0x1000 (record { bytes = hex list; at = 0xc })

abbrev pair : ℕ → ℕ → Range
pair start end = record { start = start; end = end }

abbrev ends : ℕ → Located DwarfKind
ends at = record { kind = is.Ends; section = section.Rnglists; at = at }

abbrev pair_ends : ℕ → Located DwarfKind
pair_ends at = record { kind = is.Ends; section = section.Ranges; at = at }

-- DW_RLE_end_of_list: an empty list, and a list without an end.
an_empty_list : listed "00" ≡ Ok []
unfolding range_lists_computes listed addresses
an_empty_list = refl

no_list : listed "" ≡ Err (ends 0xc)
unfolding range_lists_computes listed addresses
no_list = refl

-- Bytes after the end of the list are not read.
behind_the_end : listed "00 08" ≡ Ok []
unfolding range_lists_computes listed addresses
behind_the_end = refl

-- A kind that the standard does not have.
an_unknown_kind : listed "08" ≡ Err (record { kind = is.RangeKind; section = section.Rnglists; at = 0xc })
unfolding range_lists_computes listed addresses
an_unknown_kind = refl

an_unknown_kind_behind_an_item : listed "04 10 20 ff" ≡ Err (record { kind = is.RangeKind; section = section.Rnglists; at = 0xf })
unfolding range_lists_computes listed addresses
an_unknown_kind_behind_an_item = refl

-- DW_RLE_base_addressx
base_addressx : listed "01 01 04 10 20 00" ≡ Ok (pair 0x6010 0x6020 ∷ [])
unfolding range_lists_computes listed addresses
base_addressx = refl

base_addressx_one_short : listed "01" ≡ Err (ends 0xd)
unfolding range_lists_computes listed addresses
base_addressx_one_short = refl

-- DW_RLE_startx_endx
startx_endx : listed "02 00 01 00" ≡ Ok (pair 0x5000 0x6000 ∷ [])
unfolding range_lists_computes listed addresses
startx_endx = refl

startx_endx_one_short : listed "02 00" ≡ Err (ends 0xe)
unfolding range_lists_computes listed addresses
startx_endx_one_short = refl

startx_endx_with_a_long_number : listed "02 00 80808080 80808080 8080 00" ≡ Err (record { kind = is.LebLong; section = section.Rnglists; at = 0xe })
unfolding range_lists_computes listed addresses
startx_endx_with_a_long_number = refl

-- DW_RLE_startx_length
startx_length : listed "03 01 8001 00" ≡ Ok (pair 0x6000 0x6080 ∷ [])
unfolding range_lists_computes listed addresses
startx_length = refl

startx_length_one_short : listed "03 01 80" ≡ Err (ends 0xe)
unfolding range_lists_computes listed addresses
startx_length_one_short = refl

-- DW_RLE_offset_pair
offset_pair : listed "04 10 20 00" ≡ Ok (pair 0x1010 0x1020 ∷ [])
unfolding range_lists_computes listed addresses
offset_pair = refl

-- Sums with the base are modulo 2^64, also if the base is the last address.
offset_pair_that_wraps : list_pairs 5 addresses 0xffffffffffffffff (record { bytes = hex "04 10 20 00"; at = 0xc }) ≡ Ok (pair 0xf 0x1f ∷ [])
unfolding range_lists_computes addresses
offset_pair_that_wraps = refl

offset_pair_one_short : listed "04 10" ≡ Err (ends 0xe)
unfolding range_lists_computes listed addresses
offset_pair_one_short = refl

-- DW_RLE_base_address
base_address : listed "05 0000020000000000 04 10 20 00" ≡ Ok (pair 0x20010 0x20020 ∷ [])
unfolding range_lists_computes listed addresses
base_address = refl

base_address_one_short : listed "05 00000200000000" ≡ Err (ends 0xd)
unfolding range_lists_computes listed addresses
base_address_one_short = refl

-- DW_RLE_start_end
start_end : listed "06 0020000000000000 0030000000000000 00" ≡ Ok (pair 0x2000 0x3000 ∷ [])
unfolding range_lists_computes listed addresses
start_end = refl

start_end_one_short : listed "06 0020000000000000 00300000000000" ≡ Err (ends 0x15)
unfolding range_lists_computes listed addresses
start_end_one_short = refl

-- DW_RLE_start_length
start_length : listed "07 0020000000000000 10 00" ≡ Ok (pair 0x2000 0x2010 ∷ [])
unfolding range_lists_computes listed addresses
start_length = refl

start_length_one_short : listed "07 0020000000000000" ≡ Err (ends 0x15)
unfolding range_lists_computes listed addresses
start_length_one_short = refl

-- Each base holds up to the next one. It replaces the one before, and is not added to it. Items
-- with addresses do not change it.
several_bases : listed "04 00 01 05 0000020000000000 04 10 20 02 00 01 04 30 40 05 0000040000000000 04 50 60 01 00 04 00 01 00" ≡ Ok (pair 0x1000 0x1001 ∷ pair 0x20010 0x20020 ∷ pair 0x5000 0x6000 ∷ pair 0x20030 0x20040 ∷ pair 0x40050 0x40060 ∷ pair 0x5000 0x5001 ∷ [])
unfolding range_lists_computes listed addresses
several_bases = refl

-- Sums are modulo 2^64.
offsets_that_wrap : listed "05 f0ffffffffffffff 04 08 20 00" ≡ Ok (pair 0xfffffffffffffff8 0x10 ∷ [])
unfolding range_lists_computes listed addresses
offsets_that_wrap = refl

a_length_that_wraps : listed "07 f0ffffffffffffff 20 00" ≡ Ok (pair 0xfffffffffffffff0 0x10 ∷ [])
unfolding range_lists_computes listed addresses
a_length_that_wraps = refl

-- An index whose address is cut off, and indices whose addresses would be after the end of the
-- section.
a_cut_address : listed "01 02 00" ≡ Err (record { kind = is.Ends; section = section.Addr; at = 0x18 })
unfolding range_lists_computes listed addresses
a_cut_address = refl

an_address_outside : listed "01 03 00" ≡ Err (record { kind = is.OffsetOutside; section = section.Info; at = 0x2a })
unfolding range_lists_computes listed addresses
an_address_outside = refl

a_second_address_outside : listed "02 00 03 00" ≡ Err (record { kind = is.OffsetOutside; section = section.Info; at = 0x2a })
unfolding range_lists_computes listed addresses
a_second_address_outside = refl

-- Both operands are read before the first address is looked up. The first address is looked up
-- before the second.
operands_before_addresses : listed "02 03" ≡ Err (ends 0xe)
unfolding range_lists_computes listed addresses
operands_before_addresses = refl

the_first_address_first : listed "02 02 03 00" ≡ Err (record { kind = is.Ends; section = section.Addr; at = 0x18 })
unfolding range_lists_computes listed addresses
the_first_address_first = refl

-- The fault of an address comes before faults of later items; items that are not read have no
-- fault.
a_fault_before_those_behind : listed "01 03 08" ≡ Err (record { kind = is.OffsetOutside; section = section.Info; at = 0x2a })
unfolding range_lists_computes listed addresses
a_fault_before_those_behind = refl

-- The unit has no addr_base.
startx_without_a_base : list_pairs 5 (record addresses { base = None }) 0x1000 (record { bytes = hex "03 00 10 00"; at = 0xc }) ≡ Err (record { kind = is.NoBase; section = section.Info; at = 0x2a })
unfolding range_lists_computes addresses
startx_without_a_base = refl

-- In `.debug_ranges` the pair 0 and 0 ends the list, a first number of all ones sets the base, and
-- all other pairs are offsets.
an_empty_list_of_pairs : paired "0000000000000000 0000000000000000" ≡ Ok []
unfolding range_lists_computes paired addresses
an_empty_list_of_pairs = refl

no_pair : paired "" ≡ Err (pair_ends 0xc)
unfolding range_lists_computes paired addresses
no_pair = refl

a_pair_one_short : paired "0000000000000000 00000000000000" ≡ Err (pair_ends 0x14)
unfolding range_lists_computes paired addresses
a_pair_one_short = refl

a_first_member_one_short : paired "00000000000000" ≡ Err (pair_ends 0xc)
unfolding range_lists_computes paired addresses
a_first_member_one_short = refl

pairs : paired "1000000000000000 2000000000000000 0000000000000000 0100000000000000 0000000000000000 0000000000000000" ≡ Ok (pair 0x1010 0x1020 ∷ pair 0x1000 0x1001 ∷ [])
unfolding range_lists_computes paired addresses
pairs = refl

pairs_of_several_bases : paired "ffffffffffffffff 0000020000000000 1000000000000000 2000000000000000 ffffffffffffffff 0000040000000000 1000000000000000 2000000000000000 0000000000000000 0000000000000000" ≡ Ok (pair 0x20010 0x20020 ∷ pair 0x40010 0x40020 ∷ [])
unfolding range_lists_computes paired addresses
pairs_of_several_bases = refl

a_base_of_zero : paired "ffffffffffffffff 0000000000000000 1000000000000000 2000000000000000 0000000000000000 0000000000000000" ≡ Ok (pair 0x10 0x20 ∷ [])
unfolding range_lists_computes paired addresses
a_base_of_zero = refl

pairs_that_wrap : paired "f8ffffffffffffff 0100000000000000 0000000000000000 0000000000000000" ≡ Ok (pair 0xff8 0x1001 ∷ [])
unfolding range_lists_computes paired addresses
pairs_that_wrap = refl
