-- Worked examples: files with debugging information entries, and their first fault after the image
-- (DWARF 5, sections 6.2.4, 7.5 and 7.25).
use Rattle.std.proofs.Common.{◌≡◌, ℕ, ◌+◌, List, [], ◌∷◌, ◌++◌, length, take, codes, true, refl}
use Prim.Native.String.{String}
use Rattle.std.specs.List.{list_all, range_with_len}
use Rattle.sym_edges.proofs.Hex.{little}
use Rattle.worked.proofs.Elf.{Section, progbits, hex}
use Rattle.worked.proofs.Small.{Told, ran, dump, refuses, refused, gives, gives_and_omits, worked, files}

-- A unit of version 4, given the place of its abbreviations and its entries, and one of version 5.
-- With the length, their headers have 11 and 12 bytes.
unfoldable unit_4 : ℕ → String → List ℕ
unit_4 abbreviations entries = little 4 (7 + length (hex entries)) ++ hex "0400" ++ little 4 abbreviations ++ 8 ∷ hex entries

unfoldable unit_5 : String → List ℕ
unit_5 entries = little 4 (8 + length (hex entries)) ++ hex "0500 01 08 00000000" ++ hex entries

-- The sections of units and of abbreviations.
abbrev info : List ℕ → Section
info bytes = progbits ".debug_info" bytes

abbrev abbreviations : String → Section
abbreviations bytes = progbits ".debug_abbrev" (hex bytes)

-- A file with these sections after a build id, code and an empty symbol table.
unfoldable file : List Section → List ℕ
file sections = worked [] sections

-- The answer of `dump` to this file.
unfoldable says : List Section → Told
says sections = dump (file sections)

-- The answer of `dump` with a number of workers.
unfoldable says_by : String → List Section → Told
says_by workers sections = ran (codes "dump" ∷ codes "a" ∷ codes "--workers" ∷ codes workers ∷ []) (codes "a") (file sections)

-- Code 1 is a compile unit with a language, which has eight bytes in the abbreviations at 0, and
-- four in those at 8.
abbrev eight_or_four : Section
eight_or_four = abbreviations "01 11 00 13 07 00 00 00   01 11 00 13 06 00 00 00"

-- A unit of 16 bytes with the entry and four bytes, given the place of its abbreviations.
abbrev of_16 : ℕ → List ℕ
of_16 place = unit_4 place "01 00000000"

-- Four units, of which the first and the last are cut in their entry.
abbrev four : Section
four = info (of_16 0 ++ of_16 8 ++ of_16 8 ++ of_16 0)

-- Sections of frame entries with a fault.
abbrev bad_frames : Section
bad_frames = progbits ".eh_frame" (hex "140000")

-- A compile unit that contains an inlined copy of the code from 1000 to 1004.
abbrev entry_and_copy : Section
entry_and_copy = abbreviations "01 11 01 00 00   02 1d 00 11 01 12 0b 00 00   00"

abbrev copy : List ℕ
copy = unit_5 "01 02 0010000000000000 04 00"

-- Compile units with a line table at 0: one without further entries, and one with a function from
-- 1000 to 1010. And a line table that is refused.
abbrev with_tables : Section
with_tables = abbreviations "01 11 00 10 17 00 00   02 11 01 10 17 00 00   03 2e 00 11 01 12 0b 00 00   00"

abbrev unit_with_function : List ℕ
unit_with_function = unit_4 0 "02 00000000 03 0010000000000000 10 00"

abbrev bad_table : Section
bad_table = progbits ".debug_line" (hex "02000000 0600")

-- A type unit of 28 bytes.
abbrev type_unit : List ℕ
type_unit = hex "18000000 0500 02 08 00000000 0000000000000000 00000000 00000000"

-- The first fault counts, whatever the number of workers.
the_first_of_four_units : says (four ∷ eight_or_four ∷ []) ≡ refused "refused dwarf ends debug_info c\n"
unfolding files unit_4 unit_5 file says says_by
the_first_of_four_units = refl

the_same_by_one_worker : says_by "1" (four ∷ eight_or_four ∷ []) ≡ refused "refused dwarf ends debug_info c\n"
unfolding files unit_4 unit_5 file says says_by
the_same_by_one_worker = refl

the_same_by_two_workers : says_by "2" (four ∷ eight_or_four ∷ []) ≡ refused "refused dwarf ends debug_info c\n"
unfolding files unit_4 unit_5 file says says_by
the_same_by_two_workers = refl

the_same_by_eight_workers : says_by "8" (four ∷ eight_or_four ∷ []) ≡ refused "refused dwarf ends debug_info c\n"
unfolding files unit_4 unit_5 file says says_by
the_same_by_eight_workers = refl

the_last_of_four_units : says (info (of_16 8 ++ of_16 8 ++ of_16 8 ++ of_16 0) ∷ eight_or_four ∷ []) ≡ refused "refused dwarf ends debug_info 3c\n"
unfolding files unit_4 unit_5 file says says_by
the_last_of_four_units = refl

-- Faults of the headers of all units come before faults in the units.
a_header_behind_a_cut_unit : says (info (of_16 0 ++ hex "00") ∷ eight_or_four ∷ []) ≡ refused "refused dwarf ends debug_info 10\n"
unfolding files unit_4 unit_5 file says says_by
a_header_behind_a_cut_unit = refl

-- Faults of units come before those of frame entries.
a_unit_before_frames : says (four ∷ eight_or_four ∷ bad_frames ∷ []) ≡ refused "refused dwarf ends debug_info c\n"
unfolding files unit_4 unit_5 file says says_by
a_unit_before_frames = refl

frames_behind_a_unit : says (info (of_16 8) ∷ eight_or_four ∷ bad_frames ∷ []) ≡ refused "refused frame length eh_frame 0\n"
unfolding files unit_4 unit_5 file says says_by
frames_behind_a_unit = refl

frames_before_an_inlined_copy : says (info copy ∷ entry_and_copy ∷ bad_frames ∷ []) ≡ refused "refused frame length eh_frame 0\n"
unfolding files unit_4 unit_5 file says says_by
frames_before_an_inlined_copy = refl

-- If a unit is cut anywhere, the fault `ends` is at its start.
abbrev whole_unit : List ℕ
whole_unit = hex "0c000000 0400 00000000 08 01 00000000"

a_cut_unit : list_all (λ n. refuses "refused dwarf ends debug_info 0\n" (file (info (take n whole_unit) ∷ abbreviations "01 2e 00 3b 06 00 00 00" ∷ []))) (range_with_len 1 15)
    ≡ true
unfolding files unit_4 unit_5 file says says_by
a_cut_unit = refl

-- Units that are not read: one of another version is listed by its place and version, and a type
-- unit is passed over.
a_unit_of_version_3 : says (info (hex "07000000 0300 00000000 08") ∷ []) ≡ gives_and_omits "" "skipped debug_info 0 version 3\n"
unfolding files unit_4 unit_5 file says says_by
a_unit_of_version_3 = refl

a_type_unit : says (info type_unit ∷ []) ≡ gives ""
unfolding files unit_4 unit_5 file says says_by
a_type_unit = refl

units_behind_a_type_unit : says (info (type_unit ++ hex "07000000 0200 00000000 08 02000000 0600") ∷ [])
    ≡ gives_and_omits "" "skipped debug_info 1c version 2\nskipped debug_info 27 version 6\n"
unfolding files unit_4 unit_5 file says says_by
units_behind_a_type_unit = refl

-- The word of each kind of fault, and of each section.
a_long_number : says (info (of_16 0) ∷ abbreviations "80808080808080808080 00" ∷ []) ≡ refused "refused dwarf leb-long debug_abbrev 0\n"
unfolding files unit_4 unit_5 file says says_by
a_long_number = refl

a_text_without_an_end : says (info (unit_4 0 "01 61626364") ∷ abbreviations "01 11 00 03 08 00 00 00" ∷ []) ≡ refused "refused dwarf no-zero debug_info c\n"
unfolding files unit_4 unit_5 file says says_by
a_text_without_an_end = refl

a_reserved_length : says (info (hex "f0ffffff") ∷ []) ≡ refused "refused dwarf reserved debug_info 0\n"
unfolding files unit_4 unit_5 file says says_by
a_reserved_length = refl

addresses_of_four_bytes : says (info (hex "0c000000 0400 00000000 04 01 00000000") ∷ eight_or_four ∷ []) ≡ refused "refused dwarf address-size debug_info 0\n"
unfolding files unit_4 unit_5 file says says_by
addresses_of_four_bytes = refl

an_unknown_type_of_unit : says (info (hex "0d000000 0500 07 08 00000000 01 00000000") ∷ eight_or_four ∷ []) ≡ refused "refused dwarf unit-type debug_info 0\n"
unfolding files unit_4 unit_5 file says says_by
an_unknown_type_of_unit = refl

an_unknown_form : says (info (of_16 0) ∷ abbreviations "01 11 00 13 7f 00 00 00" ∷ []) ≡ refused "refused dwarf unknown-form debug_info c\n"
unfolding files unit_4 unit_5 file says says_by
an_unknown_form = refl

a_code_without_abbreviation : says (info (unit_4 0 "02 00000000") ∷ eight_or_four ∷ []) ≡ refused "refused dwarf no-abbrev debug_info b\n"
unfolding files unit_4 unit_5 file says says_by
a_code_without_abbreviation = refl

abbreviations_outside : says (info (of_16 17) ∷ eight_or_four ∷ []) ≡ refused "refused dwarf offset-outside debug_info 0\n"
unfolding files unit_4 unit_5 file says says_by
abbreviations_outside = refl

abbreviations_that_are_missing : says (info (of_16 0) ∷ []) ≡ refused "refused dwarf ends debug_abbrev 0\n"
unfolding files unit_4 unit_5 file says says_by
abbreviations_that_are_missing = refl

an_index_without_its_base : says (info (unit_5 "01 02 00 00") ∷ abbreviations "01 11 01 00 00   02 2e 00 55 23 00 00   00" ∷ []) ≡ refused "refused dwarf no-base debug_info d\n"
unfolding files unit_4 unit_5 file says says_by
an_index_without_its_base = refl

an_unknown_item_of_a_list : says (info (unit_5 "01 02 00000000 00") ∷ abbreviations "01 11 01 00 00   02 2e 00 55 17 00 00   00" ∷ progbits ".debug_rnglists" (hex "ff") ∷ []) ≡ refused "refused dwarf range-kind debug_rnglists 0\n"
unfolding files unit_4 unit_5 file says says_by
an_unknown_item_of_a_list = refl

an_older_list_that_ends : says (info (unit_4 0 "01 02 00000000 00") ∷ abbreviations "01 11 01 00 00   02 2e 00 55 17 00 00   00" ∷ progbits ".debug_ranges" (hex "ff") ∷ []) ≡ refused "refused dwarf ends debug_ranges 0\n"
unfolding files unit_4 unit_5 file says says_by
an_older_list_that_ends = refl

an_address_that_ends : says (info (unit_5 "01 00000000 00") ∷ abbreviations "01 11 00 73 17 11 1b 00 00   00" ∷ progbits ".debug_addr" (hex "ff") ∷ []) ≡ refused "refused dwarf ends debug_addr 0\n"
unfolding files unit_4 unit_5 file says says_by
an_address_that_ends = refl

an_unknown_version_of_a_line_table : says (info (unit_4 0 "01 00000000") ∷ abbreviations "01 11 00 10 17 00 00   00" ∷ progbits ".debug_line" (hex "02000000 0600") ∷ []) ≡ refused "refused dwarf line-version debug_line 0\n"
unfolding files unit_4 unit_5 file says says_by
an_unknown_version_of_a_line_table = refl

a_line_table_of_other_addresses : says (info (unit_4 0 "01 00000000") ∷ abbreviations "01 11 00 10 17 00 00   00" ∷ progbits ".debug_line" (hex "03000000 0500 04") ∷ []) ≡ refused "refused dwarf line-header debug_line 0\n"
unfolding files unit_4 unit_5 file says says_by
a_line_table_of_other_addresses = refl

an_opcode_of_no_bytes : says (info (unit_4 0 "01 00000000") ∷ abbreviations "01 11 00 10 17 00 00   00" ∷ progbits ".debug_line" (hex "1d000000 0400 14000000 010101fb0e0d 000101010100000001000001 00 00 010000") ∷ []) ≡ refused "refused dwarf line-opcode debug_line 1f\n"
unfolding files unit_4 unit_5 file says says_by
an_opcode_of_no_bytes = refl

-- Abbreviations with a fault that units share: if the fault is at a unit, it is at the first unit.
shared_abbreviations : says (info (of_16 0 ++ of_16 0) ∷ abbreviations "80808080808080808080 00" ∷ []) ≡ refused "refused dwarf leb-long debug_abbrev 0\n"
unfolding files unit_4 unit_5 file says says_by
shared_abbreviations = refl

shared_abbreviations_outside : says (info (of_16 8 ++ of_16 17 ++ of_16 17) ∷ eight_or_four ∷ []) ≡ refused "refused dwarf offset-outside debug_info 10\n"
unfolding files unit_4 unit_5 file says says_by
shared_abbreviations_outside = refl

-- A line table with a fault, of units with and without functions. It is read even if no unit has a
-- function.
a_shared_line_table : says (info (unit_4 0 "01 00000000" ++ unit_with_function) ∷ with_tables ∷ bad_table ∷ []) ≡ refused "refused dwarf line-version debug_line 0\n"
unfolding files unit_4 unit_5 file says says_by
a_shared_line_table = refl

a_shared_line_table_the_other_way : says (info (unit_with_function ++ unit_4 0 "01 00000000") ∷ with_tables ∷ bad_table ∷ []) ≡ refused "refused dwarf line-version debug_line 0\n"
unfolding files unit_4 unit_5 file says says_by
a_shared_line_table_the_other_way = refl

a_line_table_of_units_without_functions : says (info (unit_4 0 "01 00000000" ++ unit_4 0 "01 00000000") ∷ with_tables ∷ bad_table ∷ []) ≡ refused "refused dwarf line-version debug_line 0\n"
unfolding files unit_4 unit_5 file says says_by
a_line_table_of_units_without_functions = refl

-- The fault of a line table comes at its first unit: before a fault of a later unit, and after one
-- of an earlier unit.
a_line_table_before_a_cut_unit : says (info (unit_4 0 "01 00000000" ++ unit_4 0 "01 0000") ∷ with_tables ∷ bad_table ∷ []) ≡ refused "refused dwarf line-version debug_line 0\n"
unfolding files unit_4 unit_5 file says says_by
a_line_table_before_a_cut_unit = refl

a_line_table_behind_a_cut_unit : says (info (unit_4 0 "01 0000" ++ unit_4 0 "01 00000000") ∷ with_tables ∷ bad_table ∷ []) ≡ refused "refused dwarf ends debug_info c\n"
unfolding files unit_4 unit_5 file says says_by
a_line_table_behind_a_cut_unit = refl

-- Whether an entry counts depends only on its tag: the ranges of a root that is a function are
-- read.
a_root_that_is_a_function : says (info (unit_4 0 "01 00000000") ∷ abbreviations "01 2e 00 55 17 00 00   00" ∷ progbits ".debug_ranges" (hex "ff") ∷ []) ≡ refused "refused dwarf ends debug_ranges 0\n"
unfolding files unit_4 unit_5 file says says_by
a_root_that_is_a_function = refl
