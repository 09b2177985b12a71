-- Worked examples: faults of the file header, of the section table, of the names of sections and of
-- the program headers.
use Rattle.std.proofs.Common.{◌≡◌, [], ◌∷◌, length, take, codes, true, refl}
use Rattle.worked.proofs.Elf.{in_file, in_section, changed}
use Rattle.worked.proofs.Small.{dump, refuses, small, gives, refused, files}
use Rattle.std.specs.List.{list_all, range_with_len}

-- The magic number.
magic_0 : dump (changed (in_file 0 "7e" ∷ []) small) ≡ refused "refused elf not-elf\n"
unfolding files
magic_0 = refl

magic_1 : dump (changed (in_file 1 "65" ∷ []) small) ≡ refused "refused elf not-elf\n"
unfolding files
magic_1 = refl

magic_2 : dump (changed (in_file 2 "6c" ∷ []) small) ≡ refused "refused elf not-elf\n"
unfolding files
magic_2 = refl

magic_3 : dump (changed (in_file 3 "66" ∷ []) small) ≡ refused "refused elf not-elf\n"
unfolding files
magic_3 = refl

no_magic : dump (changed (in_file 0 "00000000" ∷ []) small) ≡ refused "refused elf not-elf\n"
unfolding files
no_magic = refl

an_empty_file : dump [] ≡ refused "refused elf not-elf\n"
unfolding files
an_empty_file = refl

a_short_text : dump (codes "#!/bin/sh\n") ≡ refused "refused elf not-elf\n"
unfolding files
a_short_text = refl

a_long_text : dump (codes "a text of more than sixty-four bytes, which is as long as the header of an ELF file\n")
    ≡ refused "refused elf not-elf\n"
unfolding files
a_long_text = refl

-- The class, and the order of bytes.
class_0 : dump (changed (in_file 4 "00" ∷ []) small) ≡ refused "refused elf class\n"
unfolding files
class_0 = refl

class_1 : dump (changed (in_file 4 "01" ∷ []) small) ≡ refused "refused elf class\n"
unfolding files
class_1 = refl

class_3 : dump (changed (in_file 4 "03" ∷ []) small) ≡ refused "refused elf class\n"
unfolding files
class_3 = refl

order_0 : dump (changed (in_file 5 "00" ∷ []) small) ≡ refused "refused elf order\n"
unfolding files
order_0 = refl

order_2 : dump (changed (in_file 5 "02" ∷ []) small) ≡ refused "refused elf order\n"
unfolding files
order_2 = refl

-- The machine (e_machine), and the kind of file (e_type).
machine_3 : dump (changed (in_file 18 "0300" ∷ []) small) ≡ refused "refused elf machine\n"
unfolding files
machine_3 = refl

machine_183 : dump (changed (in_file 18 "b700" ∷ []) small) ≡ refused "refused elf machine\n"
unfolding files
machine_183 = refl

machine_318 : dump (changed (in_file 18 "3e01" ∷ []) small) ≡ refused "refused elf machine\n"
unfolding files
machine_318 = refl

machine_15872 : dump (changed (in_file 18 "003e" ∷ []) small) ≡ refused "refused elf machine\n"
unfolding files
machine_15872 = refl

kind_0 : dump (changed (in_file 16 "0000" ∷ []) small) ≡ refused "refused elf kind\n"
unfolding files
kind_0 = refl

kind_1 : dump (changed (in_file 16 "0100" ∷ []) small) ≡ refused "refused elf kind\n"
unfolding files
kind_1 = refl

kind_4 : dump (changed (in_file 16 "0400" ∷ []) small) ≡ refused "refused elf kind\n"
unfolding files
kind_4 = refl

kind_258 : dump (changed (in_file 16 "0201" ∷ []) small) ≡ refused "refused elf kind\n"
unfolding files
kind_258 = refl

kind_768 : dump (changed (in_file 16 "0003" ∷ []) small) ≡ refused "refused elf kind\n"
unfolding files
kind_768 = refl

-- Fields that are not checked.
an_executable : dump (changed (in_file 16 "0200" ∷ []) small) ≡ gives "PUBLIC 1000 0 main\n"
unfolding files
an_executable = refl

version_0 : dump (changed (in_file 6 "00" ∷ []) small) ≡ gives "PUBLIC 1000 0 main\n"
unfolding files
version_0 = refl

symbols_of_size_0 : dump (changed (in_section 3 56 "0000000000000000" ∷ []) small) ≡ gives "PUBLIC 1000 0 main\n"
unfolding files
symbols_of_size_0 = refl

another_system : dump (changed (in_file 7 "03ff" ∷ []) small) ≡ gives "PUBLIC 1000 0 main\n"
unfolding files
another_system = refl

-- The section table: e_shoff, e_shnum and e_shentsize.
no_place : dump (changed (in_file 40 "0000000000000000" ∷ []) small) ≡ refused "refused elf section-table\n"
unfolding files
no_place = refl

a_place_past_the_file : dump (changed (in_file 40 "0010000000000000" ∷ []) small) ≡ refused "refused elf section-table\n"
unfolding files
a_place_past_the_file = refl

a_place_past_64_bits : dump (changed (in_file 40 "ffffffffffffffff" ∷ []) small) ≡ refused "refused elf section-table\n"
unfolding files
a_place_past_64_bits = refl

no_sections : dump (changed (in_file 60 "0000" ∷ []) small) ≡ refused "refused elf section-table\n"
unfolding files
no_sections = refl

a_section_more : dump (changed (in_file 60 "0700" ∷ []) small) ≡ refused "refused elf section-table\n"
unfolding files
a_section_more = refl

too_many_sections : dump (changed (in_file 60 "00ff" ∷ []) small) ≡ refused "refused elf section-table\n"
unfolding files
too_many_sections = refl

section_size_40 : dump (changed (in_file 58 "2800" ∷ []) small) ≡ refused "refused elf section-table\n"
unfolding files
section_size_40 = refl

section_size_63 : dump (changed (in_file 58 "3f00" ∷ []) small) ≡ refused "refused elf section-table\n"
unfolding files
section_size_63 = refl

section_size_65 : dump (changed (in_file 58 "4100" ∷ []) small) ≡ refused "refused elf section-table\n"
unfolding files
section_size_65 = refl

-- The small file, cut at any length.
cut_in_the_header : list_all (λ n. refuses "refused elf not-elf\n" (take n small)) (range_with_len 0 64) ≡ true
unfolding files
cut_in_the_header = refl

cut_behind_the_header : list_all (λ n. refuses "refused elf section-table\n" (take n small)) (range_with_len 64 598)
    ≡ true
unfolding files
cut_behind_the_header = refl

not_cut : length small ≡ 662
unfolding files
not_cut = refl

-- The section of names (e_shstrndx), and the names in it.
names_at_the_number_of_sections : dump (changed (in_file 62 "0600" ∷ []) small) ≡ refused "refused elf section-names\n"
unfolding files
names_at_the_number_of_sections = refl

names_at_a_large_number : dump (changed (in_file 62 "ffff" ∷ []) small) ≡ refused "refused elf section-names\n"
unfolding files
names_at_a_large_number = refl

names_without_bytes : dump (changed (in_file 62 "0000" ∷ []) small) ≡ refused "refused elf section-names\n"
unfolding files
names_without_bytes = refl

names_in_a_section_with_fewer : dump (changed (in_file 62 "0400" ∷ []) small) ≡ refused "refused elf section-names\n"
unfolding files
names_in_a_section_with_fewer = refl

names_of_type_0 : dump (changed (in_section 5 4 "00000000" ∷ []) small) ≡ refused "refused elf section-names\n"
unfolding files
names_of_type_0 = refl

names_without_bytes_in_the_file : dump (changed (in_section 5 4 "08000000" ∷ []) small) ≡ refused "refused elf section-names\n"
unfolding files
names_without_bytes_in_the_file = refl

names_past_the_file : dump (changed (in_section 5 24 "0010000000000000" ∷ []) small) ≡ refused "refused elf section-names\n"
unfolding files
names_past_the_file = refl

names_longer_than_the_file : dump (changed (in_section 5 32 "0010000000000000" ∷ []) small) ≡ refused "refused elf section-names\n"
unfolding files
names_longer_than_the_file = refl

names_past_64_bits : dump (changed (in_section 5 32 "ffffffffffffffff" ∷ []) small) ≡ refused "refused elf section-names\n"
unfolding files
names_past_64_bits = refl

the_last_name_has_no_zero : dump (changed (in_section 5 32 "33" ∷ []) small) ≡ refused "refused elf section-names\n"
unfolding files
the_last_name_has_no_zero = refl

section_0_has_no_name : dump (changed (in_section 0 0 "34" ∷ []) small) ≡ refused "refused elf section-names\n"
unfolding files
section_0_has_no_name = refl

section_2_has_no_name : dump (changed (in_section 2 0 "34" ∷ []) small) ≡ refused "refused elf section-names\n"
unfolding files
section_2_has_no_name = refl

the_last_section_has_no_name : dump (changed (in_section 5 0 "34" ∷ []) small) ≡ refused "refused elf section-names\n"
unfolding files
the_last_section_has_no_name = refl

a_name_far_behind : dump (changed (in_section 4 0 "ffffffff" ∷ []) small) ≡ refused "refused elf section-names\n"
unfolding files
a_name_far_behind = refl

the_last_zero_is_an_empty_name : dump (changed (in_section 0 0 "33" ∷ []) small) ≡ gives "PUBLIC 1000 0 main\n"
unfolding files
the_last_zero_is_an_empty_name = refl

names_of_another_type : dump (changed (in_section 5 4 "01" ∷ []) small) ≡ gives "PUBLIC 1000 0 main\n"
unfolding files
names_of_another_type = refl

-- The program headers, if there are any, must lie in the file (e_phoff, e_phentsize, e_phnum).
program_size_0 : dump (changed (in_file 54 "0000" ∷ []) small) ≡ refused "refused elf program-table\n"
unfolding files
program_size_0 = refl

program_size_0_without_any : dump (changed (in_file 54 "0000" ∷ in_file 56 "0000" ∷ []) small) ≡ gives "PUBLIC 1000 0 main\n"
unfolding files
program_size_0_without_any = refl

program_size_32 : dump (changed (in_file 54 "2000" ∷ []) small) ≡ refused "refused elf program-table\n"
unfolding files
program_size_32 = refl

program_size_32_without_any : dump (changed (in_file 54 "2000" ∷ in_file 56 "0000" ∷ []) small) ≡ gives "PUBLIC 1000 0 main\n"
unfolding files
program_size_32_without_any = refl

program_size_55 : dump (changed (in_file 54 "3700" ∷ []) small) ≡ refused "refused elf program-table\n"
unfolding files
program_size_55 = refl

program_size_55_without_any : dump (changed (in_file 54 "3700" ∷ in_file 56 "0000" ∷ []) small) ≡ gives "PUBLIC 1000 0 main\n"
unfolding files
program_size_55_without_any = refl

program_size_57 : dump (changed (in_file 54 "3900" ∷ []) small) ≡ refused "refused elf program-table\n"
unfolding files
program_size_57 = refl

program_size_57_without_any : dump (changed (in_file 54 "3900" ∷ in_file 56 "0000" ∷ []) small) ≡ gives "PUBLIC 1000 0 main\n"
unfolding files
program_size_57_without_any = refl

programs_past_the_file : dump (changed (in_file 32 "0010000000000000" ∷ []) small) ≡ refused "refused elf program-table\n"
unfolding files
programs_past_the_file = refl

programs_past_the_file_without_any : dump (changed (in_file 32 "0010000000000000" ∷ in_file 56 "0000" ∷ []) small)
    ≡ gives "PUBLIC 1000 0 main\n"
unfolding files
programs_past_the_file_without_any = refl

programs_past_64_bits : dump (changed (in_file 32 "ffffffffffffffff" ∷ []) small) ≡ refused "refused elf program-table\n"
unfolding files
programs_past_64_bits = refl

programs_past_64_bits_without_any : dump (changed (in_file 32 "ffffffffffffffff" ∷ in_file 56 "0000" ∷ []) small)
    ≡ gives "PUBLIC 1000 0 main\n"
unfolding files
programs_past_64_bits_without_any = refl

programs_65535 : dump (changed (in_file 56 "ffff" ∷ []) small) ≡ refused "refused elf program-table\n"
unfolding files
programs_65535 = refl

programs_65535_without_any : dump (changed (in_file 56 "ffff" ∷ in_file 56 "0000" ∷ []) small) ≡ gives "PUBLIC 1000 0 main\n"
unfolding files
programs_65535_without_any = refl

programs_at_the_end : dump (changed (in_file 32 "5e02000000000000" ∷ []) small) ≡ gives "PUBLIC 1000 0 main\n"
unfolding files
programs_at_the_end = refl

programs_a_byte_past_the_end : dump (changed (in_file 32 "5f02000000000000" ∷ []) small) ≡ refused "refused elf program-table\n"
unfolding files
programs_a_byte_past_the_end = refl
