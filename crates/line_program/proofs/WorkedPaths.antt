-- Worked examples: the paths of files, by the tables of each version (DWARF 5, 6.2.4; DWARF 4,
-- 6.2.4).
use Rattle.std.proofs.Common.{◌≡◌, [], ◌∷◌, Ok, Err, refl}
use Rattle.abbrev_units.specs.declared.fault.DwarfKind.TheVariants as is
use Rattle.line_program.specs.Faults.{fault_at}
use Rattle.line_program.proofs.Computing.{line_program_computes}
use Rattle.line_program.proofs.Samples.{table, wide_table, paths, tables_compute}

-- Versions 2 to 4: directory 0 is the compilation directory. A missing directory adds nothing to
-- the path.
version_2 : paths "/s" (table 2 "696e6300 2f61627300 00 612e6300 00 00 00 622e6800 01 00 00 632e6800 02 00 00 2f642e6800 01 00 00 652e6300 03 00 00 00" "") ≡ Ok ("/s/a.c" ∷ "/s/inc/b.h" ∷ "/abs/c.h" ∷ "/d.h" ∷ "e.c" ∷ [])
unfolding line_program_computes tables_compute
version_2 = refl

version_3 : paths "/s" (table 3 "696e6300 2f61627300 00 612e6300 00 00 00 622e6800 01 00 00 632e6800 02 00 00 2f642e6800 01 00 00 652e6300 03 00 00 00" "") ≡ Ok ("/s/a.c" ∷ "/s/inc/b.h" ∷ "/abs/c.h" ∷ "/d.h" ∷ "e.c" ∷ [])
unfolding line_program_computes tables_compute
version_3 = refl

version_4 : paths "/s" (table 4 "696e6300 2f61627300 00 612e6300 00 00 00 622e6800 01 00 00 632e6800 02 00 00 2f642e6800 01 00 00 652e6300 03 00 00 00" "") ≡ Ok ("/s/a.c" ∷ "/s/inc/b.h" ∷ "/abs/c.h" ∷ "/d.h" ∷ "e.c" ∷ [])
unfolding line_program_computes tables_compute
version_4 = refl

no_compilation_directory : paths "" (table 4 "696e6300 00 612e6300 00 00 00 622e6800 01 00 00 00" "") ≡ Ok ("a.c" ∷ "inc/b.h" ∷ [])
unfolding line_program_computes tables_compute
no_compilation_directory = refl

compilation_directory_with_a_slash : paths "/s/" (table 4 "696e632f00 00 612e6300 00 00 00 622e6800 01 00 00 00" "") ≡ Ok ("/s/a.c" ∷ "/s/inc/b.h" ∷ [])
unfolding line_program_computes tables_compute
compilation_directory_with_a_slash = refl

relative_compilation_directory : paths "build" (table 4 "2e2e2f696e6300 00 612e6300 00 00 00 622e6800 01 00 00 00" "") ≡ Ok ("build/a.c" ∷ "build/../inc/b.h" ∷ [])
unfolding line_program_computes tables_compute
relative_compilation_directory = refl

-- Control bytes become `?`, and leading spaces are dropped.
cleaned : paths "/s" (table 4 "00 61017f2e6300 00 00 00 00" "") ≡ Ok ("/s/a??.c" ∷ [])
unfolding line_program_computes tables_compute
cleaned = refl

cleaned_spaces : paths "  " (table 4 "00 612e6300 00 00 00 00" "") ≡ Ok ("/a.c" ∷ [])
unfolding line_program_computes tables_compute
cleaned_spaces = refl

twice : paths "/s" (table 4 "7800 00 612e6300 00 00 00 612e6300 01 00 00 612e6300 00 00 00 00" "") ≡ Ok ("/s/a.c" ∷ "/s/x/a.c" ∷ "/s/a.c" ∷ [])
unfolding line_program_computes tables_compute
twice = refl

-- A file that the program defined comes after the others.
defined : paths "/s" (table 4 "696e6300 00 612e6300 00 00 00 00" "00 08 03 622e6300 01 00 00") ≡ Ok ("/s/a.c" ∷ "/s/inc/b.c" ∷ [])
unfolding line_program_computes tables_compute
defined = refl

defined_in_version_5 : paths "/s" (table 5 "01 01 08 01 2f7300 01 01 08 01 612e6300" "00 08 03 622e6300 01 00 00") ≡ Ok ("/s/a.c" ∷ [])
unfolding line_program_computes tables_compute
defined_in_version_5 = refl

-- Version 5: directory 0 is the compilation directory, which is not joined with itself. The others
-- are relative to it.
first_directory_once : paths "/s" (table 5 "01 01 08 03 2f7300 696e6300 2f61627300 02 01 08 02 0b 05 612e6300 00 622e6800 01 632e6800 02 2f642e6800 01 652e6300 03" "") ≡ Ok ("/s/a.c" ∷ "/s/inc/b.h" ∷ "/abs/c.h" ∷ "/d.h" ∷ "e.c" ∷ [])
unfolding line_program_computes tables_compute
first_directory_once = refl

first_directory_relative : paths "./build" (table 5 "01 01 08 02 2e2f6275696c6400 696e6300 02 01 08 02 0b 02 782e6300 00 622e6800 01" "") ≡ Ok ("./build/x.c" ∷ "./build/inc/b.h" ∷ [])
unfolding line_program_computes tables_compute
first_directory_relative = refl

first_directory_in_another : paths "/s" (table 5 "01 01 08 01 73726300 02 01 08 02 0b 01 782e6300 00" "") ≡ Ok ("/s/src/x.c" ∷ [])
unfolding line_program_computes tables_compute
first_directory_in_another = refl

first_directory_rooted : paths "/s" (table 5 "01 01 08 01 2f6f00 02 01 08 02 0b 01 782e6300 00" "") ≡ Ok ("/o/x.c" ∷ [])
unfolding line_program_computes tables_compute
first_directory_rooted = refl

first_directory_empty : paths "/s" (table 5 "01 01 08 01 00 02 01 08 02 0b 01 782e6300 00" "") ≡ Ok ("/s/x.c" ∷ [])
unfolding line_program_computes tables_compute
first_directory_empty = refl

no_directory : paths "/s" (table 5 "01 01 08 00 02 01 08 02 0b 01 782e6300 00" "") ≡ Ok ("x.c" ∷ [])
unfolding line_program_computes tables_compute
no_directory = refl

-- Values that are missing, or there twice.
no_directory_index : paths "/s" (table 5 "01 01 08 01 2f7300 01 01 08 01 782e6300" "") ≡ Ok ("/s/x.c" ∷ [])
unfolding line_program_computes tables_compute
no_directory_index = refl

no_path : paths "/s" (table 5 "01 01 08 01 2f7300 01 02 0b 01 00" "") ≡ Ok ("/s" ∷ [])
unfolding line_program_computes tables_compute
no_path = refl

no_path_and_no_directory : paths "" (table 5 "00 00 01 02 0b 01 00" "") ≡ Ok ("<name omitted>" ∷ [])
unfolding line_program_computes tables_compute
no_path_and_no_directory = refl

path_twice : paths "/s" (table 5 "01 01 08 01 2f7300 02 01 08 01 08 01 612e6300 622e6300" "") ≡ Ok ("/s/a.c" ∷ [])
unfolding line_program_computes tables_compute
path_twice = refl

first_path_no_string : paths "/s" (table 5 "01 01 08 01 2f7300 02 01 0b 01 08 01 05 622e6300" "") ≡ Ok ("/s" ∷ [])
unfolding line_program_computes tables_compute
first_path_no_string = refl

index_twice : paths "/s" (table 5 "01 01 08 02 2f7300 7800 03 01 08 02 0b 02 0b 01 612e6300 01 00" "") ≡ Ok ("/s/x/a.c" ∷ [])
unfolding line_program_computes tables_compute
index_twice = refl

index_of_two_bytes : paths "/s" (table 5 "01 01 08 02 2f7300 7800 02 01 08 02 05 01 612e6300 0100" "") ≡ Ok ("/s/x/a.c" ∷ [])
unfolding line_program_computes tables_compute
index_of_two_bytes = refl

index_as_leb128 : paths "/s" (table 5 "01 01 08 02 2f7300 7800 02 02 0f 01 08 01 01 612e6300" "") ≡ Ok ("/s/x/a.c" ∷ [])
unfolding line_program_computes tables_compute
index_as_leb128 = refl

index_that_is_signed : paths "/s" (table 5 "01 01 08 02 2f7300 7800 02 01 08 02 0d 01 612e6300 01" "") ≡ Ok ("/s/a.c" ∷ [])
unfolding line_program_computes tables_compute
index_that_is_signed = refl

-- Paths in other sections.
path_in_debug_line_str : paths "/s" (table 5 "01 01 08 01 2f7300 01 01 1f 01 01000000" "") ≡ Ok ("/s/l.c" ∷ [])
unfolding line_program_computes tables_compute
path_in_debug_line_str = refl

path_in_debug_str : paths "/s" (table 5 "01 01 0e 01 01000000 01 01 0e 01 03000000" "") ≡ Ok ("/s/s/s.c" ∷ [])
unfolding line_program_computes tables_compute
path_in_debug_str = refl

-- A path that is given by a number is not found.
path_by_number : paths "/s" (table 5 "01 01 08 01 2f7300 01 01 1a 01 00" "") ≡ Ok ("/s" ∷ [])
unfolding line_program_computes tables_compute
path_by_number = refl

path_outside : paths "/s" (table 5 "01 01 08 01 2f7300 01 01 1f 01 05000000" "") ≡ Ok ("/s" ∷ [])
unfolding line_program_computes tables_compute
path_outside = refl

-- Values of other content types are ignored.
md5 : paths "/s" (table 5 "01 01 08 01 2f7300 02 01 08 05 1e 01 612e6300 000102030405060708090a0b0c0d0e0f" "") ≡ Ok ("/s/a.c" ∷ [])
unfolding line_program_computes tables_compute
md5 = refl

source_of_a_vendor : paths "/s" (table 5 "01 01 08 01 2f7300 02 8140 0a 01 08 01 02ffff 612e6300" "") ≡ Ok ("/s/a.c" ∷ [])
unfolding line_program_computes tables_compute
source_of_a_vendor = refl

indirect : paths "/s" (table 5 "01 01 08 01 2f7300 01 01 16 01 08 612e6300" "") ≡ Ok ("/s/a.c" ∷ [])
unfolding line_program_computes tables_compute
indirect = refl

-- In the 64-bit format, places have eight bytes.
wide_texts : paths "/s" (wide_table 5 "01 01 08 01 2f7300 01 01 1f 01 0100000000000000" "") ≡ Ok ("/s/l.c" ∷ [])
unfolding line_program_computes tables_compute
wide_texts = refl

-- Forms that are not read here.
implicit_const : paths "/s" (table 5 "01 01 08 01 2f7300 01 01 21 01 00" "") ≡ Err (fault_at is.UnknownForm 0x29)
unfolding line_program_computes tables_compute
implicit_const = refl

unknown_form : paths "/s" (table 5 "01 01 08 01 2f7300 01 01 7f 01 00" "") ≡ Err (fault_at is.UnknownForm 0x29)
unfolding line_program_computes tables_compute
unknown_form = refl

indirect_implicit_const : paths "/s" (table 5 "01 01 08 01 2f7300 01 01 16 01 21" "") ≡ Err (fault_at is.UnknownForm 0x2a)
unfolding line_program_computes tables_compute
indirect_implicit_const = refl

unknown_form_without_entries : paths "/s" (table 5 "01 01 08 01 2f7300 01 01 7f 00" "") ≡ Ok ([])
unfolding line_program_computes tables_compute
unknown_form_without_entries = refl

-- A count that is greater than the number of bytes left.
count_of_directories : paths "/s" (table 5 "01 01 08 04 2f7300" "") ≡ Err (fault_at is.LineHeader 0x0)
unfolding line_program_computes tables_compute
count_of_directories = refl

count_of_files : paths "/s" (table 5 "00 00 00 01" "") ≡ Err (fault_at is.LineHeader 0x0)
unfolding line_program_computes tables_compute
count_of_files = refl

-- As many entries as bytes left, each without bytes.
count_of_nothing : paths "/s" (table 5 "00 01 00 00" "") ≡ Ok []
unfolding line_program_computes tables_compute
count_of_nothing = refl

-- Tables that are cut.
format_cut : paths "/s" (table 5 "01 01" "") ≡ Err (fault_at is.Ends 0x20)
unfolding line_program_computes tables_compute
format_cut = refl

count_cut : paths "/s" (table 5 "01 01 08" "") ≡ Err (fault_at is.Ends 0x21)
unfolding line_program_computes tables_compute
count_cut = refl

entry_cut : paths "/s" (table 5 "01 01 05 01 2f" "") ≡ Err (fault_at is.Ends 0x22)
unfolding line_program_computes tables_compute
entry_cut = refl

text_open : paths "/s" (table 5 "01 01 08 01 2f" "") ≡ Err (fault_at is.NoZero 0x22)
unfolding line_program_computes tables_compute
text_open = refl

file_table_cut : paths "/s" (table 5 "01 01 08 01 2f7300" "") ≡ Err (fault_at is.Ends 0x25)
unfolding line_program_computes tables_compute
file_table_cut = refl
