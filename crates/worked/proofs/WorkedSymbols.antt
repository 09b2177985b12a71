-- Worked examples: which symbols have a PUBLIC line, in which order, and with which names.
use Rattle.std.proofs.Common.{◌≡◌, ℕ, List, [], ◌∷◌, ◌++◌, take, refl}
use Rattle.worked.proofs.Elf.{linked, plain, code, symbol, function, loaded, null, file_of, hex}
use Rattle.worked.proofs.Small.{dump, id, text, worked, gives, files}

-- The entries of the functions `sym` at 1000 and `dyn` at 1008, with the places of their names.
abbrev sym : List ℕ
sym = hex "01000000 12 00 0200 0010000000000000 0400000000000000"

abbrev dyn : List ℕ
dyn = hex "05000000 12 00 0200 0810000000000000 0400000000000000"

-- A file with two sections of such entries, of these types.
unfoldable two_tables : ℕ → List ℕ → ℕ → List ℕ → List ℕ
two_tables kind first other second =
    file_of (loaded 0 ∷ []) (null ∷ id ∷ code 0x1000 text ∷ linked "one" kind 5 first ∷ linked "two" other 5 second ∷ plain ".strtab" 3 (hex "00 73796d00 64796e00") ∷ [])

-- A symbol has a line if it is a function with a name and is in code.
at_the_first_byte : dump (worked (symbol "f" 0x12 2 0x1000 ∷ []) []) ≡ gives "PUBLIC 1000 0 f\n"
unfolding files
at_the_first_byte = refl

at_the_last_byte : dump (worked (symbol "f" 0x12 2 0x100f ∷ []) []) ≡ gives "PUBLIC 100f 0 f\n"
unfolding files
at_the_last_byte = refl

behind_the_code : dump (worked (symbol "f" 0x12 2 0x1010 ∷ []) []) ≡ gives ""
unfolding files
behind_the_code = refl

in_front_of_the_code : dump (worked (symbol "f" 0x12 2 0xfff ∷ []) []) ≡ gives ""
unfolding files
in_front_of_the_code = refl

at_0 : dump (worked (symbol "f" 0x12 2 0 ∷ []) []) ≡ gives ""
unfolding files
at_0 = refl

at_the_last_address : dump (worked (symbol "f" 0x12 2 0xffffffffffffffff ∷ []) []) ≡ gives ""
unfolding files
at_the_last_address = refl

of_section_0 : dump (worked (symbol "f" 0x12 0 0x1000 ∷ []) []) ≡ gives ""
unfolding files
of_section_0 = refl

of_another_section : dump (worked (symbol "f" 0x12 1 0x1000 ∷ []) []) ≡ gives "PUBLIC 1000 0 f\n"
unfolding files
of_another_section = refl

of_no_section_of_the_table : dump (worked (symbol "f" 0x12 0xfff1 0x1000 ∷ []) []) ≡ gives "PUBLIC 1000 0 f\n"
unfolding files
of_no_section_of_the_table = refl

without_a_type : dump (worked (symbol "f" 0x10 2 0x1000 ∷ []) []) ≡ gives ""
unfolding files
without_a_type = refl

of_data : dump (worked (symbol "f" 0x11 2 0x1000 ∷ []) []) ≡ gives ""
unfolding files
of_data = refl

of_a_section : dump (worked (symbol "f" 0x03 2 0x1000 ∷ []) []) ≡ gives ""
unfolding files
of_a_section = refl

of_a_file : dump (worked (symbol "f" 0x04 2 0x1000 ∷ []) []) ≡ gives ""
unfolding files
of_a_file = refl

of_a_thread : dump (worked (symbol "f" 0x16 2 0x1000 ∷ []) []) ≡ gives ""
unfolding files
of_a_thread = refl

of_type_9 : dump (worked (symbol "f" 0x19 2 0x1000 ∷ []) []) ≡ gives ""
unfolding files
of_type_9 = refl

of_type_11 : dump (worked (symbol "f" 0x1b 2 0x1000 ∷ []) []) ≡ gives ""
unfolding files
of_type_11 = refl

an_indirect_function : dump (worked (symbol "f" 0x1a 2 0x1000 ∷ []) []) ≡ gives "PUBLIC 1000 0 f\n"
unfolding files
an_indirect_function = refl

a_local_function : dump (worked (symbol "f" 0x02 2 0x1000 ∷ []) []) ≡ gives "PUBLIC 1000 0 f\n"
unfolding files
a_local_function = refl

a_local_indirect_function : dump (worked (symbol "f" 0x0a 2 0x1000 ∷ []) []) ≡ gives "PUBLIC 1000 0 f\n"
unfolding files
a_local_indirect_function = refl

a_weak_function : dump (worked (symbol "f" 0x22 2 0x1000 ∷ []) []) ≡ gives "PUBLIC 1000 0 f\n"
unfolding files
a_weak_function = refl

of_an_unknown_binding : dump (worked (symbol "f" 0xf2 2 0x1000 ∷ []) []) ≡ gives "PUBLIC 1000 0 f\n"
unfolding files
of_an_unknown_binding = refl

without_a_name : dump (worked (symbol "" 0x12 2 0x1000 ∷ []) []) ≡ gives ""
unfolding files
without_a_name = refl

-- Each address has only one line, and addresses ascend.
the_small_file : dump (worked (function "main" 0x1000 ∷ []) []) ≡ gives "PUBLIC 1000 0 main\n"
unfolding files
the_small_file = refl

two_functions_at_one_address : dump (worked (function "main" 0x1000 ∷ function "b" 0x1008 ∷ function "a" 0x1008 ∷ []) [])
    ≡ gives "PUBLIC 1000 0 main\nPUBLIC m 1008 0 b\n"
unfolding files
two_functions_at_one_address = refl

later_addresses_first : dump (worked (function "c" 0x100f ∷ function "b" 0x1008 ∷ function "a" 0x1000 ∷ []) [])
    ≡ gives "PUBLIC 1000 0 a\nPUBLIC 1008 0 b\nPUBLIC 100f 0 c\n"
unfolding files
later_addresses_first = refl

one_name_twice : dump (worked (function "a" 0x1000 ∷ function "a" 0x1000 ∷ []) []) ≡ gives "PUBLIC 1000 0 a\n"
unfolding files
one_name_twice = refl

two_names : dump (worked (function "b" 0x1000 ∷ function "a" 0x1000 ∷ []) []) ≡ gives "PUBLIC m 1000 0 b\n"
unfolding files
two_names = refl

the_third_name_differs : dump (worked (function "z" 0x1000 ∷ function "z" 0x1000 ∷ function "a" 0x1000 ∷ []) [])
    ≡ gives "PUBLIC m 1000 0 z\n"
unfolding files
the_third_name_differs = refl

others_between_them : dump (worked (function "z" 0x1008 ∷ function "m" 0x1000 ∷ function "a" 0x1008 ∷ function "m" 0x1000 ∷ []) [])
    ≡ gives "PUBLIC 1000 0 m\nPUBLIC m 1008 0 z\n"
unfolding files
others_between_them = refl

one_name_at_two_addresses : dump (worked (function "a" 0x1001 ∷ function "a" 0x1000 ∷ []) []) ≡ gives "PUBLIC 1000 0 a\nPUBLIC 1001 0 a\n"
unfolding files
one_name_at_two_addresses = refl

names_that_are_the_same_once_cleaned : dump (worked (function "\u{1}a" 0x1000 ∷ function "  ?a" 0x1000 ∷ function "\u{7f}a" 0x1000 ∷ []) [])
    ≡ gives "PUBLIC 1000 0 ?a\n"
unfolding files
names_that_are_the_same_once_cleaned = refl

a_name_that_begins_another : dump (worked (function "ab" 0x1000 ∷ function "a" 0x1000 ∷ []) []) ≡ gives "PUBLIC m 1000 0 ab\n"
unfolding files
a_name_that_begins_another = refl

-- Names are cleaned.
control_bytes : dump (worked (function "\u{1}a\u{1f}b\u{7f}c" 0x1000 ∷ []) []) ≡ gives "PUBLIC 1000 0 ?a?b?c\n"
unfolding files
control_bytes = refl

a_line_end : dump (worked (function "a\nb\r" 0x1000 ∷ []) []) ≡ gives "PUBLIC 1000 0 a?b?\n"
unfolding files
a_line_end = refl

leading_spaces : dump (worked (function "   a" 0x1000 ∷ []) []) ≡ gives "PUBLIC 1000 0 a\n"
unfolding files
leading_spaces = refl

inner_and_trailing_spaces : dump (worked (function "a  b " 0x1000 ∷ []) []) ≡ gives "PUBLIC 1000 0 a  b \n"
unfolding files
inner_and_trailing_spaces = refl

a_control_byte_behind_spaces : dump (worked (function "  \ta" 0x1000 ∷ []) []) ≡ gives "PUBLIC 1000 0 ?a\n"
unfolding files
a_control_byte_behind_spaces = refl

a_space_behind_a_control_byte : dump (worked (function "\t a" 0x1000 ∷ []) []) ≡ gives "PUBLIC 1000 0 ? a\n"
unfolding files
a_space_behind_a_control_byte = refl

spaces_alone : dump (worked (function "   " 0x1000 ∷ []) []) ≡ gives "PUBLIC 1000 0 <name omitted>\n"
unfolding files
spaces_alone = refl

high_bytes : dump (worked (function "\u{80}Ã©ÿ" 0x1000 ∷ []) []) ≡ gives "PUBLIC 1000 0 \u{80}Ã©ÿ\n"
unfolding files
high_bytes = refl

printed_bytes_at_the_ends : dump (worked (function "~!" 0x1000 ∷ []) []) ≡ gives "PUBLIC 1000 0 ~!\n"
unfolding files
printed_bytes_at_the_ends = refl

a_letter_in_front : dump (worked (function "m" 0x1000 ∷ []) []) ≡ gives "PUBLIC 1000 0 m\n"
unfolding files
a_letter_in_front = refl

-- The first symbol table counts or, if there is none, the first dynamic symbol table. An incomplete
-- entry at the end is ignored.
symbols_behind_dynamic_ones : dump (two_tables 11 dyn 2 sym) ≡ gives "PUBLIC 1000 0 sym\n"
unfolding files two_tables
symbols_behind_dynamic_ones = refl

symbols_in_front_of_dynamic_ones : dump (two_tables 2 sym 11 dyn) ≡ gives "PUBLIC 1000 0 sym\n"
unfolding files two_tables
symbols_in_front_of_dynamic_ones = refl

dynamic_ones_alone : dump (two_tables 11 dyn 1 sym) ≡ gives "PUBLIC 1008 0 dyn\n"
unfolding files two_tables
dynamic_ones_alone = refl

dynamic_ones_alone_and_behind : dump (two_tables 1 sym 11 dyn) ≡ gives "PUBLIC 1008 0 dyn\n"
unfolding files two_tables
dynamic_ones_alone_and_behind = refl

two_tables_of_symbols : dump (two_tables 2 dyn 2 sym) ≡ gives "PUBLIC 1008 0 dyn\n"
unfolding files two_tables
two_tables_of_symbols = refl

two_dynamic_tables : dump (two_tables 11 sym 11 dyn) ≡ gives "PUBLIC 1000 0 sym\n"
unfolding files two_tables
two_dynamic_tables = refl

an_empty_table_first : dump (two_tables 2 [] 2 sym) ≡ gives ""
unfolding files two_tables
an_empty_table_first = refl

an_empty_table_behind_dynamic_ones : dump (two_tables 11 dyn 2 []) ≡ gives ""
unfolding files two_tables
an_empty_table_behind_dynamic_ones = refl

an_empty_dynamic_table_first : dump (two_tables 11 [] 11 dyn) ≡ gives ""
unfolding files two_tables
an_empty_dynamic_table_first = refl

no_symbol_table : dump (two_tables 1 sym 1 dyn) ≡ gives ""
unfolding files two_tables
no_symbol_table = refl

a_part_of_an_entry_at_the_end : dump (two_tables 2 (sym ++ take 23 dyn) 11 dyn) ≡ gives "PUBLIC 1000 0 sym\n"
unfolding files two_tables
a_part_of_an_entry_at_the_end = refl
