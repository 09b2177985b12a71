-- Worked examples: the lines of addresses (DWARF 5, 6.2.2).
use Rattle.std.proofs.Common.{◌≡◌, [], ◌∷◌, Some, None, Ok, refl}
use Rattle.line_program.proofs.Computing.{line_program_computes}
use Rattle.line_program.proofs.Samples.{table, wide_table, lines, tables_compute}

-- Of rows at one address the last counts. A row with line 0 gives no line, and the end of a
-- sequence is no row.
rows_of_one_address : lines (0xfff ∷ 0x1000 ∷ 0x1007 ∷ 0x1008 ∷ 0x100b ∷ 0x100c ∷ 0x100f ∷ 0x1010 ∷ []) (table 4 "00 612e6300 00 00 00 622e6300 00 00 00 00" "00 09 02 00 10 00 00 00 00 00 00 03 02 01 03 01 01 02 08 03 7c 01 02 04 03 05 01 02 04 00 01 01") ≡ Ok (None ∷ Some ("/s/a.c", 4) ∷ Some ("/s/a.c", 4) ∷ None ∷ None ∷ Some ("/s/a.c", 5) ∷ Some ("/s/a.c", 5) ∷ None ∷ [])
unfolding line_program_computes tables_compute
rows_of_one_address = refl

-- A sequence without an end.
no_end : lines (0x1000 ∷ []) (table 4 "00 612e6300 00 00 00 622e6300 00 00 00 00" "00 09 02 00 10 00 00 00 00 00 00 01 02 08") ≡ Ok (None ∷ [])
unfolding line_program_computes tables_compute
no_end = refl

no_rows : lines (0x1000 ∷ []) (table 4 "00 612e6300 00 00 00 622e6300 00 00 00 00" "00 09 02 00 10 00 00 00 00 00 00 02 08 00 01 01") ≡ Ok (None ∷ [])
unfolding line_program_computes tables_compute
no_rows = refl

-- A sequence that is not code.
no_code : lines (0x500 ∷ 0x1000 ∷ 0x1007 ∷ []) (table 4 "00 612e6300 00 00 00 622e6300 00 00 00 00" "00 09 02 00 05 00 00 00 00 00 00 01 02 08 00 01 01 00 09 02 00 10 00 00 00 00 00 00 01 02 08 00 01 01") ≡ Ok (None ∷ Some ("/s/a.c", 1) ∷ Some ("/s/a.c", 1) ∷ [])
unfolding line_program_computes tables_compute
no_code = refl

across_two_ranges_of_code : lines (0x1ff8 ∷ 0x2000 ∷ []) (table 4 "00 612e6300 00 00 00 622e6300 00 00 00 00" "00 09 02 f8 1f 00 00 00 00 00 00 01 02 10 00 01 01") ≡ Ok (None ∷ None ∷ [])
unfolding line_program_computes tables_compute
across_two_ranges_of_code = refl

up_to_the_end_of_code : lines (0x1ff8 ∷ 0x1fff ∷ 0x2000 ∷ []) (table 4 "00 612e6300 00 00 00 622e6300 00 00 00 00" "00 09 02 f8 1f 00 00 00 00 00 00 01 02 08 00 01 01") ≡ Ok (Some ("/s/a.c", 1) ∷ Some ("/s/a.c", 1) ∷ None ∷ [])
unfolding line_program_computes tables_compute
up_to_the_end_of_code = refl

-- Of two sequences that overlap the first counts.
the_inner_one_second : lines (0x1000 ∷ 0x1008 ∷ 0x1010 ∷ []) (table 4 "00 612e6300 00 00 00 622e6300 00 00 00 00" "00 09 02 00 10 00 00 00 00 00 00 01 02 20 00 01 01 00 09 02 08 10 00 00 00 00 00 00 03 04 01 02 08 00 01 01") ≡ Ok (Some ("/s/a.c", 1) ∷ Some ("/s/a.c", 1) ∷ Some ("/s/a.c", 1) ∷ [])
unfolding line_program_computes tables_compute
the_inner_one_second = refl

the_inner_one_first : lines (0x1000 ∷ 0x1007 ∷ 0x1008 ∷ 0x100f ∷ 0x1010 ∷ []) (table 4 "00 612e6300 00 00 00 622e6300 00 00 00 00" "00 09 02 08 10 00 00 00 00 00 00 03 04 01 02 08 00 01 01 00 09 02 00 10 00 00 00 00 00 00 01 02 20 00 01 01") ≡ Ok (Some ("/s/a.c", 1) ∷ Some ("/s/a.c", 1) ∷ Some ("/s/a.c", 5) ∷ Some ("/s/a.c", 5) ∷ Some ("/s/a.c", 1) ∷ [])
unfolding line_program_computes tables_compute
the_inner_one_first = refl

-- Rows in descending order of their addresses.
falling : lines (0x1003 ∷ 0x1004 ∷ 0x1007 ∷ 0x1008 ∷ 0x100b ∷ 0x100c ∷ []) (table 4 "00 612e6300 00 00 00 622e6300 00 00 00 00" "00 09 02 08 10 00 00 00 00 00 00 03 09 01 00 09 02 04 10 00 00 00 00 00 00 03 01 01 00 09 02 0c 10 00 00 00 00 00 00 00 01 01") ≡ Ok (None ∷ Some ("/s/a.c", 11) ∷ Some ("/s/a.c", 11) ∷ Some ("/s/a.c", 10) ∷ Some ("/s/a.c", 10) ∷ None ∷ [])
unfolding line_program_computes tables_compute
falling = refl

rows_above_the_end : lines (0x1000 ∷ 0x1003 ∷ 0x1004 ∷ 0x1008 ∷ []) (table 4 "00 612e6300 00 00 00 622e6300 00 00 00 00" "00 09 02 08 10 00 00 00 00 00 00 03 09 01 00 09 02 00 10 00 00 00 00 00 00 03 01 01 00 09 02 04 10 00 00 00 00 00 00 00 01 01") ≡ Ok (Some ("/s/a.c", 11) ∷ Some ("/s/a.c", 11) ∷ None ∷ None ∷ [])
unfolding line_program_computes tables_compute
rows_above_the_end = refl

-- Files are numbered from 1, in version 5 from 0.
files_of_version_4 : lines (0x1000 ∷ 0x1001 ∷ 0x1002 ∷ 0x1003 ∷ []) (table 4 "00 612e6300 00 00 00 622e6300 00 00 00 00" "00 09 02 00 10 00 00 00 00 00 00 04 00 01 02 01 04 01 01 02 01 04 02 01 02 01 04 03 01 02 01 00 01 01") ≡ Ok (None ∷ Some ("/s/a.c", 1) ∷ Some ("/s/b.c", 1) ∷ None ∷ [])
unfolding line_program_computes tables_compute
files_of_version_4 = refl

files_of_version_5 : lines (0x1000 ∷ 0x1001 ∷ 0x1002 ∷ []) (table 5 "01 01 08 01 2f7300 01 01 08 02 612e6300 622e6300" "00 09 02 00 10 00 00 00 00 00 00 04 00 01 02 01 04 01 01 02 01 04 02 01 02 01 00 01 01") ≡ Ok (Some ("/s/a.c", 1) ∷ Some ("/s/b.c", 1) ∷ None ∷ [])
unfolding line_program_computes tables_compute
files_of_version_5 = refl

a_file_past_32_bits : lines (0x1000 ∷ []) (table 4 "00 612e6300 00 00 00 622e6300 00 00 00 00" "00 09 02 00 10 00 00 00 00 00 00 04 8180808010 01 02 01 00 01 01") ≡ Ok (None ∷ [])
unfolding line_program_computes tables_compute
a_file_past_32_bits = refl

-- A file that is defined at the end of the program counts for all rows.
a_file_that_is_defined_later : lines (0x1000 ∷ []) (table 4 "00 612e6300 00 00 00 622e6300 00 00 00 00" "00 09 02 00 10 00 00 00 00 00 00 04 03 01 02 01 00 01 01 00 08 03 632e6300 00 00 00") ≡ Ok (Some ("/s/c.c", 1) ∷ [])
unfolding line_program_computes tables_compute
a_file_that_is_defined_later = refl

-- A function with the rows 1000 line 3, 1004 line 9 and 100c line 4.
one_function : lines (0x1000 ∷ 0x1003 ∷ 0x1004 ∷ 0x100b ∷ 0x100c ∷ 0x101f ∷ 0x1020 ∷ []) (table 4 "00 612e6300 00 00 00 622e6300 00 00 00 00" "00 09 02 00 10 00 00 00 00 00 00 03 02 01 02 04 03 06 01 02 08 03 7b 01 02 14 00 01 01") ≡ Ok (Some ("/s/a.c", 3) ∷ Some ("/s/a.c", 3) ∷ Some ("/s/a.c", 9) ∷ Some ("/s/a.c", 9) ∷ Some ("/s/a.c", 4) ∷ Some ("/s/a.c", 4) ∷ None ∷ [])
unfolding line_program_computes tables_compute
one_function = refl

-- A table of version 3, and one in the 64-bit format.
version_3 : lines (0x1000 ∷ 0x1003 ∷ 0x1004 ∷ []) (table 3 "00 612e6300 00 00 00 622e6300 00 00 00 00" "00 09 02 00 10 00 00 00 00 00 00 03 02 01 02 04 00 01 01") ≡ Ok (Some ("/s/a.c", 3) ∷ Some ("/s/a.c", 3) ∷ None ∷ [])
unfolding line_program_computes tables_compute
version_3 = refl

wide_lines : lines (0x1000 ∷ 0x1003 ∷ 0x1004 ∷ []) (wide_table 4 "00 612e6300 00 00 00 622e6300 00 00 00 00" "00 09 02 00 10 00 00 00 00 00 00 03 02 01 02 04 00 01 01") ≡ Ok (Some ("/s/a.c", 3) ∷ Some ("/s/a.c", 3) ∷ None ∷ [])
unfolding line_program_computes tables_compute
wide_lines = refl
