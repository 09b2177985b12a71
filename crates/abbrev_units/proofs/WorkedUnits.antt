-- Worked examples: the units of a section, and the faults of their headers (DWARF 5, 7.5.1; DWARF
-- 4, 7.5.1.1).
use Rattle.std.proofs.Common.{◌≡◌, true, false, List, [], ◌∷◌, Result, Ok, Err, rules}
use Prim.Native.String.{String}
use Rattle.sym_edges.proofs.Hex.{hex}
use Rattle.sym_edges.specs.declared.part.Sect.TheVariants.{Info}
use Rattle.sym_edges.specs.declared.located.Located.{Located}
use Rattle.abbrev_units.specs.declared.fault.DwarfKind.{DwarfKind}
use Rattle.abbrev_units.specs.declared.fault.DwarfKind.TheVariants as is
use Rattle.abbrev_units.specs.declared.unit.Unit.{Unit}
use Rattle.abbrev_units.specs.declared.unit.UnitPart.TheVariants as part
use Rattle.abbrev_units.specs.Units.{units_in}
use Rattle.abbrev_units.proofs.Computing.{abbrev_units_computes}

unfoldable units_of : String → Result (List Unit) (Located DwarfKind)
unfolding hex
units_of text = units_in (hex text)

record Units : Type 0 where
  -- An empty section has no units.
  no_unit : units_of "" ≡ Ok []
  -- A unit of version 4 with one entry.
  a_unit : units_of "0c000000 0400 00000000 08 01 00000000" ≡ Ok (record { start = 0; body = 11; end = 16; version = 4; abbrev_at = 0; part = part.Read; wide = false } ∷ [])
  two_units : units_of "0c000000 0400 07000000 08 01 00000000 0c000000 0400 09000000 08 01 00000000" ≡ Ok (record { start = 0; body = 11; end = 16; version = 4; abbrev_at = 7; part = part.Read; wide = false } ∷ record { start = 16; body = 27; end = 32; version = 4; abbrev_at = 9; part = part.Read; wide = false } ∷ [])
  -- In version 5 the type comes first, and the size of addresses before the place of the
  -- abbreviations.
  a_version_5_unit : units_of "09000000 0500 01 08 05000000 00" ≡ Ok (record { start = 0; body = 12; end = 13; version = 5; abbrev_at = 5; part = part.Read; wide = false } ∷ [])
  a_partial_unit : units_of "08000000 0500 03 08 05000000" ≡ Ok (record { start = 0; body = 12; end = 12; version = 5; abbrev_at = 5; part = part.Read; wide = false } ∷ [])
  -- A skeleton unit has eight more bytes in its header.
  a_skeleton_unit : units_of "10000000 0500 04 08 05000000 0102030405060708" ≡ Ok (record { start = 0; body = 20; end = 20; version = 5; abbrev_at = 5; part = part.Read; wide = false } ∷ [])
  -- Units of these types are passed, whatever comes after the type.
  a_type_unit : units_of "03000000 0500 02" ≡ Ok (record { start = 0; body = 0; end = 7; version = 5; abbrev_at = 0; part = part.Passed; wide = false } ∷ [])
  a_split_unit : units_of "04000000 0500 05 ff" ≡ Ok (record { start = 0; body = 0; end = 8; version = 5; abbrev_at = 0; part = part.Passed; wide = false } ∷ [])
  a_split_type_unit : units_of "03000000 0500 06" ≡ Ok (record { start = 0; body = 0; end = 7; version = 5; abbrev_at = 0; part = part.Passed; wide = false } ∷ [])
  -- A unit of version 3 between two units of version 4 is skipped.
  a_unit_between_two : units_of "07000000 0400 00000000 08 02000000 0300 07000000 0400 00000000 08" ≡ Ok (record { start = 0; body = 11; end = 11; version = 4; abbrev_at = 0; part = part.Read; wide = false } ∷ record { start = 11; body = 0; end = 17; version = 3; abbrev_at = 0; part = part.Skipped; wide = false } ∷ record { start = 17; body = 28; end = 28; version = 4; abbrev_at = 0; part = part.Read; wide = false } ∷ [])
  version_3 : units_of "0c000000 0300 00000000 08 01 00000000" ≡ Ok (record { start = 0; body = 0; end = 16; version = 3; abbrev_at = 0; part = part.Skipped; wide = false } ∷ [])
  version_6 : units_of "02000000 0600" ≡ Ok (record { start = 0; body = 0; end = 6; version = 6; abbrev_at = 0; part = part.Skipped; wide = false } ∷ [])
  -- In the 64-bit format the length takes eight more bytes, and places have eight bytes.
  a_wide_unit : units_of "ffffffff 10000000 00000000 0400 00000000 00000000 08 01 00000000" ≡ Ok (record { start = 0; body = 23; end = 28; version = 4; abbrev_at = 0; part = part.Read; wide = true } ∷ [])
  a_wide_unit_of_version_5 : units_of "ffffffff 0c000000 00000000 0500 01 08 01000000 00000000" ≡ Ok (record { start = 0; body = 24; end = 24; version = 5; abbrev_at = 1; part = part.Read; wide = true } ∷ [])
  a_wide_type_unit : units_of "ffffffff 03000000 00000000 0500 02" ≡ Ok (record { start = 0; body = 0; end = 15; version = 5; abbrev_at = 0; part = part.Passed; wide = true } ∷ [])

units : Units
unfolding abbrev_units_computes units_of
units = search rules

-- Headers that are refused.
record Faults : Type 0 where
  -- Lengths that the standard reserves.
  reserved : units_of "f0ffffff 0400 00000000 08 01 00000000" ≡ Err (record { kind = is.Reserved; section = Info; at = 0 })
  reserved_at_the_end : units_of "feffffff" ≡ Err (record { kind = is.Reserved; section = Info; at = 0 })
  -- Lengths that leave the section.
  a_64_bit_length_behind_the_end : units_of "ffffffff 0400 00000000 08 01 00000000" ≡ Err (record { kind = is.Ends; section = Info; at = 0 })
  a_length_behind_the_end : units_of "0d000000 0400 00000000 08 01 00000000" ≡ Err (record { kind = is.Ends; section = Info; at = 0 })
  a_length_that_leaves_u64 : units_of "ffffffff ffffffff ffffffff 0400 00000000 00000000 08" ≡ Err (record { kind = is.Ends; section = Info; at = 0 })
  a_cut_length : units_of "0c0000" ≡ Err (record { kind = is.Ends; section = Info; at = 0 })
  a_cut_64_bit_length : units_of "ffffffff 10000000 000000" ≡ Err (record { kind = is.Ends; section = Info; at = 0 })
  -- A length of 0 leaves no room for the version, which is at place 4.
  a_length_of_0 : units_of "00000000" ≡ Err (record { kind = is.Ends; section = Info; at = 4 })
  the_second_unit_is_cut : units_of "0c000000 0400 00000000 08 01 00000000 0c000000 0400" ≡ Err (record { kind = is.Ends; section = Info; at = 16 })
  another_address_size : units_of "0c000000 0400 00000000 04 01 00000000" ≡ Err (record { kind = is.AddressSize; section = Info; at = 0 })
  -- The size of addresses comes before the place of the abbreviations.
  another_address_size_of_version_5 : units_of "04000000 0500 01 04" ≡ Err (record { kind = is.AddressSize; section = Info; at = 0 })
  another_type : units_of "0c000000 0500 07 08 00000000 00000000" ≡ Err (record { kind = is.UnitType; section = Info; at = 0 })
  type_0 : units_of "03000000 0500 00" ≡ Err (record { kind = is.UnitType; section = Info; at = 0 })
  a_fault_of_the_second_unit : units_of "0c000000 0400 00000000 08 01 00000000 0c000000 0400 00000000 04 01 00000000" ≡ Err (record { kind = is.AddressSize; section = Info; at = 16 })
  -- Fields that leave the unit.
  version_cut : units_of "01000000 04" ≡ Err (record { kind = is.Ends; section = Info; at = 4 })
  abbreviations_cut : units_of "05000000 0400 000000" ≡ Err (record { kind = is.Ends; section = Info; at = 6 })
  address_size_cut : units_of "06000000 0400 00000000" ≡ Err (record { kind = is.Ends; section = Info; at = 10 })
  type_cut : units_of "02000000 0500" ≡ Err (record { kind = is.Ends; section = Info; at = 6 })
  address_size_of_version_5_cut : units_of "03000000 0500 01" ≡ Err (record { kind = is.Ends; section = Info; at = 7 })
  abbreviations_of_version_5_cut : units_of "07000000 0500 01 08 000000" ≡ Err (record { kind = is.Ends; section = Info; at = 8 })
  id_cut : units_of "0f000000 0500 04 08 05000000 01020304050607" ≡ Err (record { kind = is.Ends; section = Info; at = 12 })
  wide_abbreviations_cut : units_of "ffffffff 09000000 00000000 0400 00000000 000000" ≡ Err (record { kind = is.Ends; section = Info; at = 14 })

faults : Faults
unfolding abbrev_units_computes units_of
faults = search rules
