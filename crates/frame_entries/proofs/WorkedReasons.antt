-- Worked examples: what the fields of a CIE and an FDE say, and the reasons to leave an FDE out.
use Rattle.std.proofs.Common.{◌≡◌, ◌++◌, take, Some, Ok, Err, refl}
use Rattle.std.specs.Prelude.{slice_set}
use Rattle.sym_edges.specs.declared.part.Sect.TheVariants.{EhFrame, DebugFrame}
use Rattle.sym_edges.specs.declared.reason.Reason.TheVariants as reason
use Rattle.sym_edges.proofs.Hex.{hex}
use Rattle.frame_entries.proofs.Sections.{entries, only, small, changed, under, sections}

-- For each reason, one changed byte of the small section gives it.
version_2 : only (changed 8 2) ≡ Some (Err reason.Cie)
unfolding sections
version_2 = refl

no_cie_in_front_of_the_section : only (changed 28 0x1d) ≡ Some (Err reason.Cie)
unfolding sections
no_cie_in_front_of_the_section = refl

an_fde_as_cie : only (changed 28 4) ≡ Some (Err reason.Cie)
unfolding sections
an_fde_as_cie = refl

a_place_inside_the_cie : only (changed 28 0x14) ≡ Some (Err reason.Cie)
unfolding sections
a_place_inside_the_cie = refl

augmentation_bytes_that_leave_the_cie : only (changed 15 0x7f) ≡ Some (Err reason.Cie)
unfolding sections
augmentation_bytes_that_leave_the_cie = refl

an_encoding_that_leaves_the_augmentation : only (changed 15 0) ≡ Some (Err reason.Cie)
unfolding sections
an_encoding_that_leaves_the_augmentation = refl

a_letter_of_no_meaning : only (changed 10 0x58) ≡ Some (Err reason.Augmentation)
unfolding sections
a_letter_of_no_meaning = refl

a_text_without_z : only (changed 9 0x52) ≡ Some (Err reason.Augmentation)
unfolding sections
a_text_without_z = refl

an_indirect_encoding : only (changed 16 0x9b) ≡ Some (Err reason.Encoding)
unfolding sections
an_indirect_encoding = refl

no_encoding : only (changed 16 0xff) ≡ Some (Err reason.Encoding)
unfolding sections
no_encoding = refl

relative_to_the_text : only (changed 16 0x2b) ≡ Some (Err reason.Encoding)
unfolding sections
relative_to_the_text = refl

no_such_format : only (changed 16 0x1d) ≡ Some (Err reason.Encoding)
unfolding sections
no_such_format = refl

another_column : only (changed 14 0x11) ≡ Some (Err reason.Column)
unfolding sections
another_column = refl

augmentation_bytes_that_leave_the_fde : only (changed 40 0x7f) ≡ Some (Err reason.Entry)
unfolding sections
augmentation_bytes_that_leave_the_fde = refl

-- Addresses and sizes are taken modulo 2^64.
a_sum_that_passes_the_last_address : only (entries EhFrame 0xfffffffffffff000 (slice_set (slice_set (slice_set small 33 0x1f) 34 0) 35 0)) ≡ Some (Ok (0x1000, 0x20))
unfolding sections
a_sum_that_passes_the_last_address = refl

a_signed_size : only (entries EhFrame 0x2000 (slice_set (slice_set (slice_set (slice_set small 36 0xe0) 37 0xff) 38 0xff) 39 0xff)) ≡ Some (Ok (0x1000, 0xffffffffffffffe0))
unfolding sections
a_signed_size = refl

-- A LEB128 of eleven bytes as the length of an FDE's augmentation data.
a_count_of_an_fde_that_is_too_long : only (entries EhFrame 0x2000 (take 40 small ++ hex "80808080 80808080 80800000 00000000")) ≡ Some (Err reason.Entry)
unfolding sections
a_count_of_an_fde_that_is_too_long = refl

-- In `.debug_frame`, relative pointers count from the section's address.
a_relative_pointer_of_debug_frame : only (entries DebugFrame 0x7000 (hex "0d000000 ffffffff 01 7a5200 01 78 10 01 1b 0d000000 00000000 e79fffff 20000000 00")) ≡ Some (Ok (0x1000, 0x20))
unfolding sections
a_relative_pointer_of_debug_frame = refl

-- The body of a CIE of each version.
version_1 : under "01 00 01 78 10" ≡ Some (Ok (0x1000, 0x20))
unfolding sections
version_1 = refl

a_column_of_one_byte : under "01 00 01 78 90" ≡ Some (Err reason.Column)
unfolding sections
a_column_of_one_byte = refl

version_3 : under "03 00 01 78 10" ≡ Some (Ok (0x1000, 0x20))
unfolding sections
version_3 = refl

a_column_of_two_bytes : under "03 00 01 78 9000" ≡ Some (Ok (0x1000, 0x20))
unfolding sections
a_column_of_two_bytes = refl

a_cut_column : under "03 00 01 78 90" ≡ Some (Err reason.Cie)
unfolding sections
a_cut_column = refl

version_4 : under "04 00 08 00 01 78 10" ≡ Some (Ok (0x1000, 0x20))
unfolding sections
version_4 = refl

addresses_of_four_bytes : under "04 00 04 00 01 78 10" ≡ Some (Err reason.Cie)
unfolding sections
addresses_of_four_bytes = refl

segments : under "04 00 08 04 01 78 10" ≡ Some (Err reason.Cie)
unfolding sections
segments = refl

version_4_with_zR : under "04 7a5200 08 00 01 78 10 01 00" ≡ Some (Ok (0x1000, 0x20))
unfolding sections
version_4_with_zR = refl

version_5 : under "05 00 08 00 01 78 10" ≡ Some (Err reason.Cie)
unfolding sections
version_5 = refl

an_empty_body : under "" ≡ Some (Err reason.Cie)
unfolding sections
an_empty_body = refl

an_open_text : under "01 7a" ≡ Some (Err reason.Cie)
unfolding sections
an_open_text = refl

a_number_of_eleven_bytes : under "01 00 80808080 80808080 808000 78 10" ≡ Some (Err reason.Cie)
unfolding sections
a_number_of_eleven_bytes = refl

a_signed_number_of_eleven_bytes : under "01 00 01 80808080 80808080 808000 10" ≡ Some (Err reason.Cie)
unfolding sections
a_signed_number_of_eleven_bytes = refl

-- If there are several reasons, the first counts.
the_text_of_gcc_2 : under "01 656800 01 78 10" ≡ Some (Err reason.Augmentation)
unfolding sections
the_text_of_gcc_2 = refl

a_text_that_is_not_understood_before_a_cut : under "01 7a4200" ≡ Some (Err reason.Augmentation)
unfolding sections
a_text_that_is_not_understood_before_a_cut = refl

sizes_behind_a_text_that_is_not_understood : under "04 7a4200 04 00 01 78 10 00" ≡ Some (Err reason.Augmentation)
unfolding sections
sizes_behind_a_text_that_is_not_understood = refl

a_cut_personality_behind_a_bad_encoding : under "01 7a525000 01 78 10 02 ff 03" ≡ Some (Err reason.Cie)
unfolding sections
a_cut_personality_behind_a_bad_encoding = refl

an_aligned_personality_before_a_cut_encoding : under "01 7a505200 01 78 10 01 50" ≡ Some (Err reason.Encoding)
unfolding sections
an_aligned_personality_before_a_cut_encoding = refl

a_bad_encoding_and_another_column : under "01 7a5200 01 78 11 01 ff" ≡ Some (Err reason.Encoding)
unfolding sections
a_bad_encoding_and_another_column = refl

-- Augmentation strings, letter by letter.
z_alone : under "01 7a00 01 78 10 00" ≡ Some (Ok (0x1000, 0x20))
unfolding sections
z_alone = refl

a_signal_frame : under "01 7a5300 01 78 10 00" ≡ Some (Ok (0x1000, 0x20))
unfolding sections
a_signal_frame = refl

a_table : under "01 7a4c00 01 78 10 01 1b" ≡ Some (Ok (0x1000, 0x20))
unfolding sections
a_table = refl

a_cut_table : under "01 7a4c00 01 78 10 00" ≡ Some (Err reason.Cie)
unfolding sections
a_cut_table = refl

an_indirect_personality_and_a_table : under "01 7a504c00 01 78 10 06 9b 01020304 1b" ≡ Some (Ok (0x1000, 0x20))
unfolding sections
an_indirect_personality_and_a_table = refl

of_two_encodings_the_last : under "01 7a525200 01 78 10 02 1b 00" ≡ Some (Ok (0x1000, 0x20))
unfolding sections
of_two_encodings_the_last = refl

of_two_encodings_a_bad_first : under "01 7a525200 01 78 10 02 ff 00" ≡ Some (Err reason.Encoding)
unfolding sections
of_two_encodings_a_bad_first = refl

-- Personality pointers by their encoding: ff means that there is none, 50 (aligned) is not read,
-- and for the others only the format matters.
personality_ff : under "01 7a5000 01 78 10 01 ff" ≡ Some (Ok (0x1000, 0x20))
unfolding sections
personality_ff = refl

personality_00 : under "01 7a505200 01 78 10 0a 00 0102030405060708 00" ≡ Some (Ok (0x1000, 0x20))
unfolding sections
personality_00 = refl

personality_00_cut : under "01 7a5000 01 78 10 08 00 01020304050607" ≡ Some (Err reason.Cie)
unfolding sections
personality_00_cut = refl

personality_01 : under "01 7a505200 01 78 10 04 01 8001 00" ≡ Some (Ok (0x1000, 0x20))
unfolding sections
personality_01 = refl

personality_02 : under "01 7a505200 01 78 10 04 02 0102 00" ≡ Some (Ok (0x1000, 0x20))
unfolding sections
personality_02 = refl

personality_60 : under "01 7a505200 01 78 10 0a 60 0102030405060708 00" ≡ Some (Ok (0x1000, 0x20))
unfolding sections
personality_60 = refl

personality_d0 : under "01 7a5000 01 78 10 09 d0 0102030405060708" ≡ Some (Err reason.Encoding)
unfolding sections
personality_d0 = refl

personality_50 : under "01 7a5000 01 78 10 09 50 0102030405060708" ≡ Some (Err reason.Encoding)
unfolding sections
personality_50 = refl

personality_of_no_format : under "01 7a5000 01 78 10 03 05 0102" ≡ Some (Err reason.Encoding)
unfolding sections
personality_of_no_format = refl
