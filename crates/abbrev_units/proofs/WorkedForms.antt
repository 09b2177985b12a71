-- Worked examples: the value of each form, with all of its bytes and with one byte missing (DWARF
-- 5, 7.5.5 and 7.5.6).
use Rattle.std.proofs.Common.{◌≡◌, ℕ, Bool, true, false, pos, negsuc, Result, Ok, Err, rules}
use Prim.Native.String.{String}
use Rattle.sym_edges.specs.Results.{◌>>=◌}
use Rattle.sym_edges.proofs.Hex.{hex}
use Rattle.leb_cursor.specs.declared.fault.CursorFault.TheVariants.{Ends, NoZero}
use Rattle.abbrev_units.specs.declared.fault.FormFault.{FormFault}
use Rattle.abbrev_units.specs.declared.fault.FormFault.TheVariants.{Cursor, Unknown}
use Rattle.abbrev_units.specs.declared.value.Value.{Value}
use Rattle.abbrev_units.specs.declared.value.Value.TheVariants as value
use Rattle.abbrev_units.specs.FormValue.{form_at}
use Rattle.abbrev_units.proofs.Computing.{abbrev_units_computes}

-- The value that is read among bytes of which the first has place 1, and the place after it. The
-- abbreviation has the constant 7.
unfoldable reads : ℕ → Bool → String → Result (Value × ℕ) FormFault
unfolding hex
reads form wide text = form_at form (pos 7) wide (record { bytes = hex text; at = 1 }) >>= λ v. Ok (v.0, v.1.at)

-- Each form, in the 32-bit format.
record Forms : Type 0 where
  addr : reads 0x01 false "f0debc9a 78563412" ≡ Ok (value.Addr 0x123456789abcdef0, 9)
  addr_cut : reads 0x01 false "f0debc9a785634" ≡ Err (Cursor (Ends 1))
  block2 : reads 0x03 false "0200 6162" ≡ Ok (value.Block 3 2, 5)
  block2_cut : reads 0x03 false "020061" ≡ Err (Cursor (Ends 3))
  block4 : reads 0x04 false "02000000 6162" ≡ Ok (value.Block 5 2, 7)
  block4_cut : reads 0x04 false "0200000061" ≡ Err (Cursor (Ends 5))
  data2 : reads 0x05 false "3412" ≡ Ok (value.Num 0x1234, 3)
  data2_cut : reads 0x05 false "34" ≡ Err (Cursor (Ends 1))
  data4 : reads 0x06 false "78563412" ≡ Ok (value.Num 0x12345678, 5)
  data4_cut : reads 0x06 false "785634" ≡ Err (Cursor (Ends 1))
  data8 : reads 0x07 false "f0debc9a 78563412" ≡ Ok (value.Num 0x123456789abcdef0, 9)
  data8_cut : reads 0x07 false "f0debc9a785634" ≡ Err (Cursor (Ends 1))
  string : reads 0x08 false "6162 00" ≡ Ok (value.InlineText 1, 4)
  string_cut : reads 0x08 false "6162" ≡ Err (Cursor (NoZero 1))
  block : reads 0x09 false "02 6162" ≡ Ok (value.Block 2 2, 4)
  block_cut : reads 0x09 false "0261" ≡ Err (Cursor (Ends 2))
  block1 : reads 0x0a false "02 6162" ≡ Ok (value.Block 2 2, 4)
  block1_cut : reads 0x0a false "0261" ≡ Err (Cursor (Ends 2))
  data1 : reads 0x0b false "12" ≡ Ok (value.Num 0x12, 2)
  data1_cut : reads 0x0b false "" ≡ Err (Cursor (Ends 1))
  flag : reads 0x0c false "12" ≡ Ok (value.Flag true, 2)
  flag_cut : reads 0x0c false "" ≡ Err (Cursor (Ends 1))
  sdata : reads 0x0d false "80 7f" ≡ Ok (value.Signed (negsuc 127), 3)
  sdata_cut : reads 0x0d false "80" ≡ Err (Cursor (Ends 1))
  strp : reads 0x0e false "78563412" ≡ Ok (value.StrAt 0x12345678, 5)
  strp_cut : reads 0x0e false "785634" ≡ Err (Cursor (Ends 1))
  udata : reads 0x0f false "8601" ≡ Ok (value.Num 134, 3)
  udata_cut : reads 0x0f false "86" ≡ Err (Cursor (Ends 1))
  ref_addr : reads 0x10 false "78563412" ≡ Ok (value.InfoRef 0x12345678, 5)
  ref_addr_cut : reads 0x10 false "785634" ≡ Err (Cursor (Ends 1))
  ref1 : reads 0x11 false "12" ≡ Ok (value.UnitRef 0x12, 2)
  ref1_cut : reads 0x11 false "" ≡ Err (Cursor (Ends 1))
  ref2 : reads 0x12 false "3412" ≡ Ok (value.UnitRef 0x1234, 3)
  ref2_cut : reads 0x12 false "34" ≡ Err (Cursor (Ends 1))
  ref4 : reads 0x13 false "78563412" ≡ Ok (value.UnitRef 0x12345678, 5)
  ref4_cut : reads 0x13 false "785634" ≡ Err (Cursor (Ends 1))
  ref8 : reads 0x14 false "f0debc9a 78563412" ≡ Ok (value.UnitRef 0x123456789abcdef0, 9)
  ref8_cut : reads 0x14 false "f0debc9a785634" ≡ Err (Cursor (Ends 1))
  ref_udata : reads 0x15 false "8601" ≡ Ok (value.UnitRef 134, 3)
  ref_udata_cut : reads 0x15 false "86" ≡ Err (Cursor (Ends 1))
  sec_offset : reads 0x17 false "78563412" ≡ Ok (value.SecOffset 0x12345678, 5)
  sec_offset_cut : reads 0x17 false "785634" ≡ Err (Cursor (Ends 1))
  exprloc : reads 0x18 false "02 6162" ≡ Ok (value.Block 2 2, 4)
  exprloc_cut : reads 0x18 false "0261" ≡ Err (Cursor (Ends 2))
  flag_present : reads 0x19 false "" ≡ Ok (value.Flag true, 1)
  strx : reads 0x1a false "8601" ≡ Ok (value.StrIndex 134, 3)
  strx_cut : reads 0x1a false "86" ≡ Err (Cursor (Ends 1))
  addrx : reads 0x1b false "8601" ≡ Ok (value.AddrIndex 134, 3)
  addrx_cut : reads 0x1b false "86" ≡ Err (Cursor (Ends 1))
  ref_sup4 : reads 0x1c false "78563412" ≡ Ok (value.SupRefAt 0x12345678, 5)
  ref_sup4_cut : reads 0x1c false "785634" ≡ Err (Cursor (Ends 1))
  strp_sup : reads 0x1d false "78563412" ≡ Ok (value.SupStrAt 0x12345678, 5)
  strp_sup_cut : reads 0x1d false "785634" ≡ Err (Cursor (Ends 1))
  data16 : reads 0x1e false "00112233 44556677 8899aabb ccddeeff" ≡ Ok (value.Other, 17)
  data16_cut : reads 0x1e false "00112233445566778899aabbccddee" ≡ Err (Cursor (Ends 1))
  line_strp : reads 0x1f false "78563412" ≡ Ok (value.LineStrAt 0x12345678, 5)
  line_strp_cut : reads 0x1f false "785634" ≡ Err (Cursor (Ends 1))
  ref_sig8 : reads 0x20 false "f0debc9a 78563412" ≡ Ok (value.Other, 9)
  ref_sig8_cut : reads 0x20 false "f0debc9a785634" ≡ Err (Cursor (Ends 1))
  implicit_const : reads 0x21 false "" ≡ Ok (value.Signed (pos 7), 1)
  loclistx : reads 0x22 false "8601" ≡ Ok (value.Other, 3)
  loclistx_cut : reads 0x22 false "86" ≡ Err (Cursor (Ends 1))
  rnglistx : reads 0x23 false "8601" ≡ Ok (value.ListIndex 134, 3)
  rnglistx_cut : reads 0x23 false "86" ≡ Err (Cursor (Ends 1))
  ref_sup8 : reads 0x24 false "f0debc9a 78563412" ≡ Ok (value.SupRefAt 0x123456789abcdef0, 9)
  ref_sup8_cut : reads 0x24 false "f0debc9a785634" ≡ Err (Cursor (Ends 1))
  strx1 : reads 0x25 false "12" ≡ Ok (value.StrIndex 0x12, 2)
  strx1_cut : reads 0x25 false "" ≡ Err (Cursor (Ends 1))
  strx2 : reads 0x26 false "3412" ≡ Ok (value.StrIndex 0x1234, 3)
  strx2_cut : reads 0x26 false "34" ≡ Err (Cursor (Ends 1))
  strx3 : reads 0x27 false "563412" ≡ Ok (value.StrIndex 0x123456, 4)
  strx3_cut : reads 0x27 false "5634" ≡ Err (Cursor (Ends 1))
  strx4 : reads 0x28 false "78563412" ≡ Ok (value.StrIndex 0x12345678, 5)
  strx4_cut : reads 0x28 false "785634" ≡ Err (Cursor (Ends 1))
  addrx1 : reads 0x29 false "12" ≡ Ok (value.AddrIndex 0x12, 2)
  addrx1_cut : reads 0x29 false "" ≡ Err (Cursor (Ends 1))
  addrx2 : reads 0x2a false "3412" ≡ Ok (value.AddrIndex 0x1234, 3)
  addrx2_cut : reads 0x2a false "34" ≡ Err (Cursor (Ends 1))
  addrx3 : reads 0x2b false "563412" ≡ Ok (value.AddrIndex 0x123456, 4)
  addrx3_cut : reads 0x2b false "5634" ≡ Err (Cursor (Ends 1))
  addrx4 : reads 0x2c false "78563412" ≡ Ok (value.AddrIndex 0x12345678, 5)
  addrx4_cut : reads 0x2c false "785634" ≡ Err (Cursor (Ends 1))
  gnu_ref_alt : reads 0x1f20 false "78563412" ≡ Ok (value.SupRefAt 0x12345678, 5)
  gnu_ref_alt_cut : reads 0x1f20 false "785634" ≡ Err (Cursor (Ends 1))
  gnu_strp_alt : reads 0x1f21 false "78563412" ≡ Ok (value.SupStrAt 0x12345678, 5)
  gnu_strp_alt_cut : reads 0x1f21 false "785634" ≡ Err (Cursor (Ends 1))

forms : Forms
unfolding abbrev_units_computes reads
forms = search rules

-- The forms whose size differs in the 64-bit format.
record WideForms : Type 0 where
  strp_wide : reads 0x0e true "f0debc9a 78563412" ≡ Ok (value.StrAt 0x123456789abcdef0, 9)
  strp_wide_cut : reads 0x0e true "f0debc9a785634" ≡ Err (Cursor (Ends 1))
  ref_addr_wide : reads 0x10 true "f0debc9a 78563412" ≡ Ok (value.InfoRef 0x123456789abcdef0, 9)
  ref_addr_wide_cut : reads 0x10 true "f0debc9a785634" ≡ Err (Cursor (Ends 1))
  sec_offset_wide : reads 0x17 true "f0debc9a 78563412" ≡ Ok (value.SecOffset 0x123456789abcdef0, 9)
  sec_offset_wide_cut : reads 0x17 true "f0debc9a785634" ≡ Err (Cursor (Ends 1))
  strp_sup_wide : reads 0x1d true "f0debc9a 78563412" ≡ Ok (value.SupStrAt 0x123456789abcdef0, 9)
  strp_sup_wide_cut : reads 0x1d true "f0debc9a785634" ≡ Err (Cursor (Ends 1))
  line_strp_wide : reads 0x1f true "f0debc9a 78563412" ≡ Ok (value.LineStrAt 0x123456789abcdef0, 9)
  line_strp_wide_cut : reads 0x1f true "f0debc9a785634" ≡ Err (Cursor (Ends 1))
  gnu_ref_alt_wide : reads 0x1f20 true "f0debc9a 78563412" ≡ Ok (value.SupRefAt 0x123456789abcdef0, 9)
  gnu_ref_alt_wide_cut : reads 0x1f20 true "f0debc9a785634" ≡ Err (Cursor (Ends 1))
  gnu_strp_alt_wide : reads 0x1f21 true "f0debc9a 78563412" ≡ Ok (value.SupStrAt 0x123456789abcdef0, 9)
  gnu_strp_alt_wide_cut : reads 0x1f21 true "f0debc9a785634" ≡ Err (Cursor (Ends 1))
  ref_sup4_in_the_64_bit_format : reads 0x1c true "78563412" ≡ Ok (value.SupRefAt 0x12345678, 5)

wide_forms : WideForms
unfolding abbrev_units_computes reads
wide_forms = search rules

-- Flags, and numbers that are no forms.
record OtherForms : Type 0 where
  a_flag_that_is_0 : reads 0x0c false "00" ≡ Ok (value.Flag false, 2)
  no_form_2 : reads 0x02 false "00" ≡ Err (Unknown 1)
  no_form_0 : reads 0x00 false "00" ≡ Err (Unknown 1)
  no_form_2d : reads 0x2d false "00" ≡ Err (Unknown 1)
  no_form_1f02 : reads 0x1f02 true "00" ≡ Err (Unknown 1)

other_forms : OtherForms
unfolding abbrev_units_computes reads
other_forms = search rules

-- With DW_FORM_indirect, the form comes before the value.
record IndirectForms : Type 0 where
  indirect_addr : reads 0x16 false "01 f0debc9a 78563412" ≡ Ok (value.Addr 0x123456789abcdef0, 10)
  indirect_block1 : reads 0x16 false "0a 01 61" ≡ Ok (value.Block 3 1, 4)
  indirect_data2 : reads 0x16 false "05 3412" ≡ Ok (value.Num 0x1234, 4)
  indirect_sdata : reads 0x16 false "0d 7f" ≡ Ok (value.Signed (negsuc 0), 3)
  indirect_flag : reads 0x16 false "0c 01" ≡ Ok (value.Flag true, 3)
  indirect_present : reads 0x16 false "19" ≡ Ok (value.Flag true, 2)
  indirect_string : reads 0x16 false "08 6100" ≡ Ok (value.InlineText 2, 4)
  indirect_strp : reads 0x16 false "0e 78563412" ≡ Ok (value.StrAt 0x12345678, 6)
  indirect_line_strp : reads 0x16 false "1f 78563412" ≡ Ok (value.LineStrAt 0x12345678, 6)
  indirect_strx : reads 0x16 false "1a 05" ≡ Ok (value.StrIndex 5, 3)
  indirect_addrx : reads 0x16 false "1b 05" ≡ Ok (value.AddrIndex 5, 3)
  indirect_ref4 : reads 0x16 false "13 78563412" ≡ Ok (value.UnitRef 0x12345678, 6)
  indirect_ref_addr : reads 0x16 false "10 78563412" ≡ Ok (value.InfoRef 0x12345678, 6)
  indirect_sec_offset : reads 0x16 false "17 78563412" ≡ Ok (value.SecOffset 0x12345678, 6)
  indirect_rnglistx : reads 0x16 false "23 05" ≡ Ok (value.ListIndex 5, 3)
  indirect_data16 : reads 0x16 false "1e 00112233 44556677 8899aabb ccddeeff" ≡ Ok (value.Other, 18)
  indirect_strp_wide : reads 0x16 true "0e f0debc9a 78563412" ≡ Ok (value.StrAt 0x123456789abcdef0, 10)
  indirect_by_two_bytes : reads 0x16 false "a03e 78563412" ≡ Ok (value.SupRefAt 0x12345678, 7)
  indirect_to_indirect : reads 0x16 false "16 01" ≡ Err (Unknown 2)
  indirect_to_implicit : reads 0x16 false "21 01" ≡ Err (Unknown 2)
  indirect_to_no_form : reads 0x16 false "02 01" ≡ Err (Unknown 2)
  indirect_cut : reads 0x16 false "" ≡ Err (Cursor (Ends 1))
  indirect_value_cut : reads 0x16 false "05 34" ≡ Err (Cursor (Ends 2))

indirect_forms : IndirectForms
unfolding abbrev_units_computes reads
indirect_forms = search rules
