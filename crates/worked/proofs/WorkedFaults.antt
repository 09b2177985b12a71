-- Worked examples: faults of the bytes of sections, of compressed sections and of symbols, files
-- without an identity, and the order of faults.
use Rattle.std.proofs.Common.{◌≡◌, [], ◌∷◌, refl}
use Rattle.worked.proofs.Elf.{in_file, in_section, changed, plain, progbits, of_kind, code, symbol, loaded, null, file_of, hex}
use Rattle.worked.proofs.Small.{dump, small, small_and, worked, main, gives, refused, text, files}

-- The bytes of a read section must lie in the file (sh_offset, sh_size). The lowest number of such
-- a section is printed.
bytes_of_notes : dump (changed (in_section 1 24 "0010000000000000" ∷ []) small) ≡ refused "refused elf section-bytes 1\n"
unfolding files
bytes_of_notes = refl

bytes_of_code_bytes : dump (changed (in_section 2 24 "0010000000000000" ∷ []) small) ≡ refused "refused elf section-bytes 2\n"
unfolding files
bytes_of_code_bytes = refl

bytes_of_symbols : dump (changed (in_section 3 32 "0010000000000000" ∷ []) small) ≡ refused "refused elf section-bytes 3\n"
unfolding files
bytes_of_symbols = refl

bytes_of_strings : dump (changed (in_section 4 32 "ffffffffffffffff" ∷ []) small) ≡ refused "refused elf section-bytes 4\n"
unfolding files
bytes_of_strings = refl

bytes_of_dynamic_symbols : dump (changed (in_section 3 4 "0b" ∷ in_section 3 24 "ffffffffffffffff" ∷ []) small)
    ≡ refused "refused elf section-bytes 3\n"
unfolding files
bytes_of_dynamic_symbols = refl

a_place_past_64_bits : dump (changed (in_section 2 24 "ffffffffffffffff" ∷ []) small) ≡ refused "refused elf section-bytes 2\n"
unfolding files
a_place_past_64_bits = refl

two_of_them : dump (changed (in_section 4 24 "0010000000000000" ∷ in_section 2 24 "0010000000000000" ∷ []) small)
    ≡ refused "refused elf section-bytes 2\n"
unfolding files
two_of_them = refl

no_bytes_past_the_file : dump (changed (in_section 1 32 "0000000000000000" ∷ in_section 1 24 "0010000000000000" ∷ []) small)
    ≡ refused "refused elf section-bytes 1\n"
unfolding files
no_bytes_past_the_file = refl

no_bytes_far_behind : dump (changed (in_section 2 32 "0000000000000000" ∷ in_section 2 24 "ffffffffffffffff" ∷ []) small)
    ≡ refused "refused elf section-bytes 2\n"
unfolding files
no_bytes_far_behind = refl

section_0_made_a_note : dump (changed (in_section 0 4 "07" ∷ in_section 0 24 "ffffffffffffffff" ∷ []) small)
    ≡ refused "refused elf section-bytes 0\n"
unfolding files
section_0_made_a_note = refl

code_not_in_the_file : dump (changed (in_section 2 4 "08" ∷ in_section 2 24 "ffffffffffffffff" ∷ []) small) ≡ gives "PUBLIC 1000 0 main\n"
unfolding files
code_not_in_the_file = refl

code_of_type_0 : dump (changed (in_section 2 4 "00" ∷ in_section 2 24 "ffffffffffffffff" ∷ []) small) ≡ gives "PUBLIC 1000 0 main\n"
unfolding files
code_of_type_0 = refl

-- Bytes may end at the end of the file.
bytes_at_the_end : dump (changed (in_section 5 24 "e102000000000000" ∷ []) (small_and (progbits ".debug_str" [] ∷ [])))
    ≡ gives "PUBLIC 1000 0 main\n"
unfolding files
bytes_at_the_end = refl

bytes_a_byte_past_the_end : dump (changed (in_section 5 24 "e102000000000000" ∷ in_section 5 32 "01" ∷ []) (small_and (progbits ".debug_str" [] ∷ [])))
    ≡ refused "refused elf section-bytes 5\n"
unfolding files
bytes_a_byte_past_the_end = refl

-- The read sections are known by their names.
debug_info_compressed : dump (changed (in_section 5 8 "0008" ∷ []) (small_and (progbits ".debug_info" [] ∷ [])))
    ≡ refused "refused elf compressed 5\n"
unfolding files
debug_info_compressed = refl

debug_info_past_the_file : dump (changed (in_section 5 8 "0008" ∷ in_section 5 24 "ffffffffffffffff" ∷ []) (small_and (progbits ".debug_info" [] ∷ [])))
    ≡ refused "refused elf section-bytes 5\n"
unfolding files
debug_info_past_the_file = refl

debug_abbrev_compressed : dump (changed (in_section 5 8 "0008" ∷ []) (small_and (progbits ".debug_abbrev" [] ∷ [])))
    ≡ refused "refused elf compressed 5\n"
unfolding files
debug_abbrev_compressed = refl

debug_abbrev_past_the_file : dump (changed (in_section 5 8 "0008" ∷ in_section 5 24 "ffffffffffffffff" ∷ []) (small_and (progbits ".debug_abbrev" [] ∷ [])))
    ≡ refused "refused elf section-bytes 5\n"
unfolding files
debug_abbrev_past_the_file = refl

debug_line_compressed : dump (changed (in_section 5 8 "0008" ∷ []) (small_and (progbits ".debug_line" [] ∷ [])))
    ≡ refused "refused elf compressed 5\n"
unfolding files
debug_line_compressed = refl

debug_line_past_the_file : dump (changed (in_section 5 8 "0008" ∷ in_section 5 24 "ffffffffffffffff" ∷ []) (small_and (progbits ".debug_line" [] ∷ [])))
    ≡ refused "refused elf section-bytes 5\n"
unfolding files
debug_line_past_the_file = refl

debug_line_str_compressed : dump (changed (in_section 5 8 "0008" ∷ []) (small_and (progbits ".debug_line_str" [] ∷ [])))
    ≡ refused "refused elf compressed 5\n"
unfolding files
debug_line_str_compressed = refl

debug_line_str_past_the_file : dump (changed (in_section 5 8 "0008" ∷ in_section 5 24 "ffffffffffffffff" ∷ []) (small_and (progbits ".debug_line_str" [] ∷ [])))
    ≡ refused "refused elf section-bytes 5\n"
unfolding files
debug_line_str_past_the_file = refl

debug_str_compressed : dump (changed (in_section 5 8 "0008" ∷ []) (small_and (progbits ".debug_str" [] ∷ [])))
    ≡ refused "refused elf compressed 5\n"
unfolding files
debug_str_compressed = refl

debug_str_past_the_file : dump (changed (in_section 5 8 "0008" ∷ in_section 5 24 "ffffffffffffffff" ∷ []) (small_and (progbits ".debug_str" [] ∷ [])))
    ≡ refused "refused elf section-bytes 5\n"
unfolding files
debug_str_past_the_file = refl

debug_str_offsets_compressed : dump (changed (in_section 5 8 "0008" ∷ []) (small_and (progbits ".debug_str_offsets" [] ∷ [])))
    ≡ refused "refused elf compressed 5\n"
unfolding files
debug_str_offsets_compressed = refl

debug_str_offsets_past_the_file : dump (changed (in_section 5 8 "0008" ∷ in_section 5 24 "ffffffffffffffff" ∷ []) (small_and (progbits ".debug_str_offsets" [] ∷ [])))
    ≡ refused "refused elf section-bytes 5\n"
unfolding files
debug_str_offsets_past_the_file = refl

debug_addr_compressed : dump (changed (in_section 5 8 "0008" ∷ []) (small_and (progbits ".debug_addr" [] ∷ [])))
    ≡ refused "refused elf compressed 5\n"
unfolding files
debug_addr_compressed = refl

debug_addr_past_the_file : dump (changed (in_section 5 8 "0008" ∷ in_section 5 24 "ffffffffffffffff" ∷ []) (small_and (progbits ".debug_addr" [] ∷ [])))
    ≡ refused "refused elf section-bytes 5\n"
unfolding files
debug_addr_past_the_file = refl

debug_ranges_compressed : dump (changed (in_section 5 8 "0008" ∷ []) (small_and (progbits ".debug_ranges" [] ∷ [])))
    ≡ refused "refused elf compressed 5\n"
unfolding files
debug_ranges_compressed = refl

debug_ranges_past_the_file : dump (changed (in_section 5 8 "0008" ∷ in_section 5 24 "ffffffffffffffff" ∷ []) (small_and (progbits ".debug_ranges" [] ∷ [])))
    ≡ refused "refused elf section-bytes 5\n"
unfolding files
debug_ranges_past_the_file = refl

debug_rnglists_compressed : dump (changed (in_section 5 8 "0008" ∷ []) (small_and (progbits ".debug_rnglists" [] ∷ [])))
    ≡ refused "refused elf compressed 5\n"
unfolding files
debug_rnglists_compressed = refl

debug_rnglists_past_the_file : dump (changed (in_section 5 8 "0008" ∷ in_section 5 24 "ffffffffffffffff" ∷ []) (small_and (progbits ".debug_rnglists" [] ∷ [])))
    ≡ refused "refused elf section-bytes 5\n"
unfolding files
debug_rnglists_past_the_file = refl

debug_frame_compressed : dump (changed (in_section 5 8 "0008" ∷ []) (small_and (progbits ".debug_frame" [] ∷ [])))
    ≡ refused "refused elf compressed 5\n"
unfolding files
debug_frame_compressed = refl

debug_frame_past_the_file : dump (changed (in_section 5 8 "0008" ∷ in_section 5 24 "ffffffffffffffff" ∷ []) (small_and (progbits ".debug_frame" [] ∷ [])))
    ≡ refused "refused elf section-bytes 5\n"
unfolding files
debug_frame_past_the_file = refl

eh_frame_compressed : dump (changed (in_section 5 8 "0008" ∷ []) (small_and (progbits ".eh_frame" [] ∷ [])))
    ≡ refused "refused elf compressed 5\n"
unfolding files
eh_frame_compressed = refl

eh_frame_past_the_file : dump (changed (in_section 5 8 "0008" ∷ in_section 5 24 "ffffffffffffffff" ∷ []) (small_and (progbits ".eh_frame" [] ∷ [])))
    ≡ refused "refused elf section-bytes 5\n"
unfolding files
eh_frame_past_the_file = refl

text_compressed : dump (changed (in_section 5 8 "0008" ∷ []) (small_and (progbits ".text" [] ∷ [])))
    ≡ refused "refused elf compressed 5\n"
unfolding files
text_compressed = refl

text_past_the_file : dump (changed (in_section 5 8 "0008" ∷ in_section 5 24 "ffffffffffffffff" ∷ []) (small_and (progbits ".text" [] ∷ [])))
    ≡ refused "refused elf section-bytes 5\n"
unfolding files
text_past_the_file = refl

-- Sections with other names are not read.
not_read_no_name : dump (changed (in_section 5 8 "0008" ∷ in_section 5 24 "ffffffffffffffff" ∷ []) (small_and (progbits "" (1 ∷ []) ∷ [])))
    ≡ gives "PUBLIC 1000 0 main\n"
unfolding files
not_read_no_name = refl

not_read_data : dump (changed (in_section 5 8 "0008" ∷ in_section 5 24 "ffffffffffffffff" ∷ []) (small_and (progbits ".data" (1 ∷ []) ∷ [])))
    ≡ gives "PUBLIC 1000 0 main\n"
unfolding files
not_read_data = refl

not_read_debug_types : dump (changed (in_section 5 8 "0008" ∷ in_section 5 24 "ffffffffffffffff" ∷ []) (small_and (progbits ".debug_types" (1 ∷ []) ∷ [])))
    ≡ gives "PUBLIC 1000 0 main\n"
unfolding files
not_read_debug_types = refl

not_read_a_front_of_a_name : dump (changed (in_section 5 8 "0008" ∷ in_section 5 24 "ffffffffffffffff" ∷ []) (small_and (progbits ".debug_inf" (1 ∷ []) ∷ [])))
    ≡ gives "PUBLIC 1000 0 main\n"
unfolding files
not_read_a_front_of_a_name = refl

not_read_a_longer_name : dump (changed (in_section 5 8 "0008" ∷ in_section 5 24 "ffffffffffffffff" ∷ []) (small_and (progbits ".debug_info.dwo" (1 ∷ []) ∷ [])))
    ≡ gives "PUBLIC 1000 0 main\n"
unfolding files
not_read_a_longer_name = refl

not_read_a_name_without_its_point : dump (changed (in_section 5 8 "0008" ∷ in_section 5 24 "ffffffffffffffff" ∷ []) (small_and (progbits "debug_info" (1 ∷ []) ∷ [])))
    ≡ gives "PUBLIC 1000 0 main\n"
unfolding files
not_read_a_name_without_its_point = refl

not_read_eh_frame_hdr : dump (changed (in_section 5 8 "0008" ∷ in_section 5 24 "ffffffffffffffff" ∷ []) (small_and (progbits ".eh_frame_hdr" (1 ∷ []) ∷ [])))
    ≡ gives "PUBLIC 1000 0 main\n"
unfolding files
not_read_eh_frame_hdr = refl

not_read_a_front_of_text : dump (changed (in_section 5 8 "0008" ∷ in_section 5 24 "ffffffffffffffff" ∷ []) (small_and (progbits ".tex" (1 ∷ []) ∷ [])))
    ≡ gives "PUBLIC 1000 0 main\n"
unfolding files
not_read_a_front_of_text = refl

not_read_zdebug_alone : dump (changed (in_section 5 8 "0008" ∷ in_section 5 24 "ffffffffffffffff" ∷ []) (small_and (progbits ".zdebug" (1 ∷ []) ∷ [])))
    ≡ gives "PUBLIC 1000 0 main\n"
unfolding files
not_read_zdebug_alone = refl

not_read_zdebug_inside : dump (changed (in_section 5 8 "0008" ∷ in_section 5 24 "ffffffffffffffff" ∷ []) (small_and (progbits "x.zdebug_info" (1 ∷ []) ∷ [])))
    ≡ gives "PUBLIC 1000 0 main\n"
unfolding files
not_read_zdebug_inside = refl

-- A compressed section is known by a flag.
compressed_notes : dump (changed (in_section 1 9 "08" ∷ []) small) ≡ refused "refused elf compressed 1\n"
unfolding files
compressed_notes = refl

compressed_code : dump (changed (in_section 2 9 "08" ∷ []) small) ≡ refused "refused elf compressed 2\n"
unfolding files
compressed_code = refl

compressed_symbols : dump (changed (in_section 3 9 "08" ∷ []) small) ≡ refused "refused elf compressed 3\n"
unfolding files
compressed_symbols = refl

compressed_strings : dump (changed (in_section 4 9 "ff" ∷ []) small) ≡ refused "refused elf compressed 4\n"
unfolding files
compressed_strings = refl

compressed_code_not_in_the_file : dump (changed (in_section 2 9 "08" ∷ in_section 2 4 "08" ∷ []) small)
    ≡ refused "refused elf compressed 2\n"
unfolding files
compressed_code_not_in_the_file = refl

compressed_code_of_type_0 : dump (changed (in_section 2 9 "08" ∷ in_section 2 4 "00" ∷ []) small) ≡ refused "refused elf compressed 2\n"
unfolding files
compressed_code_of_type_0 = refl

compressed_two_of_them : dump (changed (in_section 4 9 "08" ∷ in_section 1 9 "08" ∷ []) small) ≡ refused "refused elf compressed 1\n"
unfolding files
compressed_two_of_them = refl

the_flags_beside_it : dump (changed (in_section 1 8 "00f7" ∷ []) small) ≡ gives "PUBLIC 1000 0 main\n"
unfolding files
the_flags_beside_it = refl

compressed_section_5 : dump (small_and (of_kind 1 0x800 (progbits ".debug_info" (hex "01000000")) ∷ []))
    ≡ refused "refused elf compressed 5\n"
unfolding files
compressed_section_5 = refl

-- A compressed section is known by its name.
zdebug_info : dump (small_and (plain ".zdebug_info" 1 [] ∷ [])) ≡ refused "refused elf compressed 5\n"
unfolding files
zdebug_info = refl

zdebug_no_more : dump (small_and (plain ".zdebug_" 1 [] ∷ [])) ≡ refused "refused elf compressed 5\n"
unfolding files
zdebug_no_more = refl

zdebug_of_no_type : dump (small_and (plain ".zdebug_x" 0 [] ∷ [])) ≡ refused "refused elf compressed 5\n"
unfolding files
zdebug_of_no_type = refl

zdebug_without_bytes : dump (small_and (plain ".zdebug_str" 8 [] ∷ [])) ≡ refused "refused elf compressed 5\n"
unfolding files
zdebug_without_bytes = refl

the_name_first : dump (small_and (progbits ".zdebug_str" [] ∷ of_kind 1 0x800 (progbits ".debug_info" (1 ∷ [])) ∷ []))
    ≡ refused "refused elf compressed 5\n"
unfolding files
the_name_first = refl

the_flag_first : dump (small_and (of_kind 1 0x800 (progbits ".debug_info" (1 ∷ [])) ∷ progbits ".zdebug_str" [] ∷ []))
    ≡ refused "refused elf compressed 5\n"
unfolding files
the_flag_first = refl

-- A second section of a name is checked too.
a_second_text : dump (small_and (progbits ".text" (1 ∷ []) ∷ progbits ".debug_str" [] ∷ [])) ≡ gives "PUBLIC 1000 0 main\n"
unfolding files
a_second_text = refl

a_second_text_compressed : dump (changed (in_section 5 9 "08" ∷ []) (small_and (progbits ".text" (1 ∷ []) ∷ progbits ".debug_str" [] ∷ [])))
    ≡ refused "refused elf compressed 5\n"
unfolding files
a_second_text_compressed = refl

a_second_text_cut : dump (changed (in_section 5 9 "08" ∷ in_section 5 24 "0010000000000000" ∷ []) (small_and (progbits ".text" (1 ∷ []) ∷ progbits ".debug_str" [] ∷ [])))
    ≡ refused "refused elf section-bytes 5\n"
unfolding files
a_second_text_cut = refl

-- The symbol table must link to a section of names (sh_link).
no_link : dump (changed (in_section 3 40 "00" ∷ []) small) ≡ refused "refused elf symbol-table\n"
unfolding files
no_link = refl

a_link_to_code : dump (changed (in_section 3 40 "02" ∷ []) small) ≡ refused "refused elf symbol-table\n"
unfolding files
a_link_to_code = refl

a_link_to_the_symbols : dump (changed (in_section 3 40 "03" ∷ []) small) ≡ refused "refused elf symbol-table\n"
unfolding files
a_link_to_the_symbols = refl

a_link_behind_the_table : dump (changed (in_section 3 40 "06" ∷ []) small) ≡ refused "refused elf symbol-table\n"
unfolding files
a_link_behind_the_table = refl

a_link_far_behind : dump (changed (in_section 3 40 "ffffffff" ∷ []) small) ≡ refused "refused elf symbol-table\n"
unfolding files
a_link_far_behind = refl

strings_of_another_type : dump (changed (in_section 4 4 "01" ∷ []) small) ≡ refused "refused elf symbol-table\n"
unfolding files
strings_of_another_type = refl

no_symbols_and_no_link : dump (changed (in_section 3 32 "0000000000000000" ∷ in_section 3 40 "00" ∷ []) small)
    ≡ refused "refused elf symbol-table\n"
unfolding files
no_symbols_and_no_link = refl

a_name_without_a_zero : dump (changed (in_section 4 32 "05" ∷ []) small) ≡ refused "refused elf symbol-table\n"
unfolding files
a_name_without_a_zero = refl

a_name_behind_the_names : dump (changed (in_section 4 32 "01" ∷ []) small) ≡ refused "refused elf symbol-table\n"
unfolding files
a_name_behind_the_names = refl

no_names : dump (changed (in_section 4 32 "0000000000000000" ∷ []) small) ≡ refused "refused elf symbol-table\n"
unfolding files
no_names = refl

no_symbols_and_a_link : dump (worked [] []) ≡ gives ""
unfolding files
no_symbols_and_a_link = refl

no_table : dump (changed (in_section 4 32 "0000000000000000" ∷ in_section 3 4 "01" ∷ []) small) ≡ gives ""
unfolding files
no_table = refl

-- Only the names of function symbols are checked. Here the name of symbol 1 would begin after the
-- names.
the_name_of_a_function : dump (changed (in_file 196 "ffffffff" ∷ []) (worked (symbol "f" 0x12 2 0x1000 ∷ main ∷ []) []))
    ≡ refused "refused elf symbol-table\n"
unfolding files
the_name_of_a_function = refl

the_name_of_an_indirect_function : dump (changed (in_file 196 "ffffffff" ∷ []) (worked (symbol "f" 0x1a 2 0x1000 ∷ main ∷ []) []))
    ≡ refused "refused elf symbol-table\n"
unfolding files
the_name_of_an_indirect_function = refl

the_name_of_data : dump (changed (in_file 196 "ffffffff" ∷ []) (worked (symbol "f" 0x11 2 0x1000 ∷ main ∷ []) []))
    ≡ gives "PUBLIC 1000 0 main\n"
unfolding files
the_name_of_data = refl

the_name_of_a_function_of_section_0 : dump (changed (in_file 196 "ffffffff" ∷ []) (worked (symbol "f" 0x12 0 0x1000 ∷ main ∷ []) []))
    ≡ gives "PUBLIC 1000 0 main\n"
unfolding files
the_name_of_a_function_of_section_0 = refl

the_name_of_a_function_outside_code : dump (changed (in_file 196 "ffffffff" ∷ []) (worked (symbol "f" 0x12 2 0x1010 ∷ main ∷ []) []))
    ≡ gives "PUBLIC 1000 0 main\n"
unfolding files
the_name_of_a_function_outside_code = refl

the_name_of_a_function_at_0 : dump (changed (in_file 196 "ffffffff" ∷ []) (worked (symbol "f" 0x12 2 0 ∷ main ∷ []) []))
    ≡ gives "PUBLIC 1000 0 main\n"
unfolding files
the_name_of_a_function_at_0 = refl

-- Without a build id and without code there is no identity.
empty_code : dump (changed (in_section 1 4 "01" ∷ in_section 2 32 "0000000000000000" ∷ []) small) ≡ refused "refused elf no-identity\n"
unfolding files
empty_code = refl

code_without_bytes_in_the_file : dump (changed (in_section 1 4 "01" ∷ in_section 2 4 "08" ∷ []) small)
    ≡ refused "refused elf no-identity\n"
unfolding files
code_without_bytes_in_the_file = refl

code_made_type_0 : dump (changed (in_section 1 4 "01" ∷ in_section 2 4 "00" ∷ []) small) ≡ refused "refused elf no-identity\n"
unfolding files
code_made_type_0 = refl

code_of_another_name : dump (changed (in_section 1 4 "01" ∷ in_section 2 0 "33" ∷ []) small) ≡ refused "refused elf no-identity\n"
unfolding files
code_of_another_name = refl

the_first_section_of_the_name_is_empty : dump (file_of (loaded 0 ∷ []) (null ∷ code 0x1000 [] ∷ code 0x2000 text ∷ []))
    ≡ refused "refused elf no-identity\n"
unfolding files
the_first_section_of_the_name_is_empty = refl

the_names_alone : dump (file_of [] (null ∷ [])) ≡ refused "refused elf no-identity\n"
unfolding files
the_names_alone = refl

-- Of two faults the earlier one is printed.
magic_and_class : dump (changed (in_file 0 "78" ∷ in_file 4 "01" ∷ []) small) ≡ refused "refused elf not-elf\n"
unfolding files
magic_and_class = refl

class_and_order : dump (changed (in_file 4 "01" ∷ in_file 5 "02" ∷ []) small) ≡ refused "refused elf class\n"
unfolding files
class_and_order = refl

order_and_machine : dump (changed (in_file 5 "02" ∷ in_file 18 "03" ∷ []) small) ≡ refused "refused elf order\n"
unfolding files
order_and_machine = refl

machine_and_kind : dump (changed (in_file 18 "03" ∷ in_file 16 "01" ∷ []) small) ≡ refused "refused elf machine\n"
unfolding files
machine_and_kind = refl

kind_and_table : dump (changed (in_file 16 "01" ∷ in_file 58 "28" ∷ []) small) ≡ refused "refused elf kind\n"
unfolding files
kind_and_table = refl

table_and_names : dump (changed (in_file 58 "28" ∷ in_file 62 "ff" ∷ []) small) ≡ refused "refused elf section-table\n"
unfolding files
table_and_names = refl

names_and_bytes : dump (changed (in_file 62 "ff" ∷ in_section 3 24 "ffffffffffffffff" ∷ []) small) ≡ refused "refused elf section-names\n"
unfolding files
names_and_bytes = refl

bytes_and_compressed : dump (changed (in_section 3 24 "ffffffffffffffff" ∷ in_section 2 9 "08" ∷ []) small)
    ≡ refused "refused elf section-bytes 3\n"
unfolding files
bytes_and_compressed = refl

compressed_and_programs : dump (changed (in_section 2 9 "08" ∷ in_file 54 "37" ∷ []) small) ≡ refused "refused elf compressed 2\n"
unfolding files
compressed_and_programs = refl

programs_and_symbols : dump (changed (in_file 54 "37" ∷ in_section 3 40 "00" ∷ []) small) ≡ refused "refused elf program-table\n"
unfolding files
programs_and_symbols = refl

symbols_and_identity : dump (changed (in_section 3 40 "00" ∷ in_section 1 4 "01" ∷ in_section 2 0 "33" ∷ []) small)
    ≡ refused "refused elf symbol-table\n"
unfolding files
symbols_and_identity = refl

-- A fault of the image comes before faults in debugging information and in frame entries.
symbols_before_frames : dump (changed (in_section 3 40 "00" ∷ []) (small_and (progbits ".eh_frame" (hex "00000000") ∷ [])))
    ≡ refused "refused elf symbol-table\n"
unfolding files
symbols_before_frames = refl

class_before_frames : dump (changed (in_section 3 40 "00" ∷ in_file 4 "01" ∷ []) (small_and (progbits ".eh_frame" (hex "00000000") ∷ [])))
    ≡ refused "refused elf class\n"
unfolding files
class_before_frames = refl

identity_before_frames : dump (file_of [] (null ∷ progbits ".eh_frame" (hex "00000000") ∷ [])) ≡ refused "refused elf no-identity\n"
unfolding files
identity_before_frames = refl

a_cut_unit : dump (small_and (progbits ".debug_info" (0 ∷ []) ∷ [])) ≡ refused "refused dwarf ends debug_info 0\n"
unfolding files
a_cut_unit = refl

the_first_of_debug_info_is_empty : dump (small_and (progbits ".debug_info" [] ∷ progbits ".debug_info" (0 ∷ []) ∷ []))
    ≡ gives "PUBLIC 1000 0 main\n"
unfolding files
the_first_of_debug_info_is_empty = refl

lines_without_entries : dump (small_and (progbits ".debug_line" (0 ∷ []) ∷ [])) ≡ gives "PUBLIC 1000 0 main\n"
unfolding files
lines_without_entries = refl
