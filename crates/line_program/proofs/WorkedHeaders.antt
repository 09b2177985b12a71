-- Worked examples: the header of a line table, field by field (DWARF 5, 6.2.4).
use Rattle.std.proofs.Common.{◌≡◌, [], ◌∷◌, ◌++◌, map, take, Ok, Err, refl}
use Rattle.abbrev_units.specs.declared.fault.DwarfKind.TheVariants as is
use Rattle.line_program.specs.Faults.{fault_at}
use Rattle.line_program.proofs.Computing.{line_program_computes}
use Rattle.sym_edges.proofs.Hex.{hex}
use Rattle.sym_edges.specs.declared.part.Sect.TheVariants.{Info}
use Rattle.std.specs.List.{range_with_len}
use Rattle.std.specs.Prelude.{replicate}
use Rattle.line_program.proofs.Samples.{counted, fields, contents, table, wide_table, first_file, paths, tables_compute}

-- A missing section: the table at 0 is cut.
no_table : paths "/s" (hex "") ≡ Err (fault_at is.Ends 0x0)
unfolding line_program_computes tables_compute
no_table = refl

-- unit_length.
length_cut : paths "/s" (hex "0a0000") ≡ Err (fault_at is.Ends 0x0)
unfolding line_program_computes tables_compute
length_cut = refl

length_past_the_section : paths "/s" (hex "03000000 0400") ≡ Err (fault_at is.Ends 0x0)
unfolding line_program_computes tables_compute
length_past_the_section = refl

length_reserved : paths "/s" (hex "f0ffffff 0400") ≡ Err (fault_at is.Reserved 0x0)
unfolding line_program_computes tables_compute
length_reserved = refl

length_of_the_64_bit_format_cut : paths "/s" (hex "ffffffff 02000000") ≡ Err (fault_at is.Ends 0x0)
unfolding line_program_computes tables_compute
length_of_the_64_bit_format_cut = refl

length_of_the_64_bit_format_past_the_section : paths "/s" (hex "ffffffff 0300000000000000 0400") ≡ Err (fault_at is.Ends 0x0)
unfolding line_program_computes tables_compute
length_of_the_64_bit_format_past_the_section = refl

version_cut : paths "/s" (hex "01000000 04") ≡ Err (fault_at is.Ends 0x4)
unfolding line_program_computes tables_compute
version_cut = refl

version_1 : paths "/s" (hex "02000000 0100") ≡ Err (fault_at is.LineVersion 0x0)
unfolding line_program_computes tables_compute
version_1 = refl

version_6 : paths "/s" (hex "02000000 0600") ≡ Err (fault_at is.LineVersion 0x0)
unfolding line_program_computes tables_compute
version_6 = refl

address_size_cut : paths "/s" (hex "02000000 0500") ≡ Err (fault_at is.Ends 0x6)
unfolding line_program_computes tables_compute
address_size_cut = refl

address_size_4 : paths "/s" (hex "03000000 0500 04") ≡ Err (fault_at is.LineHeader 0x0)
unfolding line_program_computes tables_compute
address_size_4 = refl

segment_size_cut : paths "/s" (hex "03000000 0500 08") ≡ Err (fault_at is.Ends 0x7)
unfolding line_program_computes tables_compute
segment_size_cut = refl

segment_size_1 : paths "/s" (hex "04000000 0500 08 01") ≡ Err (fault_at is.LineHeader 0x0)
unfolding line_program_computes tables_compute
segment_size_1 = refl

header_length_cut : paths "/s" (hex "05000000 0400 000000") ≡ Err (fault_at is.Ends 0x6)
unfolding line_program_computes tables_compute
header_length_cut = refl

header_length_past_the_table : paths "/s" (hex "06000000 0400 01000000") ≡ Err (fault_at is.LineHeader 0x0)
unfolding line_program_computes tables_compute
header_length_past_the_table = refl

header_length_of_the_64_bit_format_cut : paths "/s" (hex "ffffffff 0900000000000000 0400 00000000000000") ≡ Err (fault_at is.Ends 0xe)
unfolding line_program_computes tables_compute
header_length_of_the_64_bit_format_cut = refl

-- A small table, cut at each byte: its length leaves the section.
each_cut_of_the_section : map (λ n. first_file 0 (take n (table 4 "6100 00 6200 00 00 00 00" "02 8001"))) (range_with_len 0 40) ≡ replicate 40 (Err (fault_at is.Ends 0x0))
unfolding line_program_computes tables_compute
each_cut_of_the_section = refl

-- The same table with the right length after each cut: the version, header_length, what it counts,
-- and the operand of an opcode are cut.
each_cut_of_the_table : map (λ n. first_file 0 (counted 4 (take n (contents 4 (fields 4) (hex "6100 00 6200 00 00 00 00") (hex "02 8001"))))) (range_with_len 0 37) ≡ replicate 2 (Err (fault_at is.Ends 0x4)) ++ (replicate 4 (Err (fault_at is.Ends 0x6)) ++ (replicate 27 (Err (fault_at is.LineHeader 0x0)) ++ (Ok 1 ∷ replicate 2 (Err (fault_at is.Ends 0x26)) ++ Ok 1 ∷ [])))
unfolding line_program_computes tables_compute
each_cut_of_the_table = refl

-- The same table with the right header_length after each cut: each field from
-- minimum_instruction_length on is cut, then the texts and numbers of both tables.
each_cut_of_the_header : map (λ n. first_file 0 (counted 4 (contents 4 (take n (fields 4 ++ hex "6100 00 6200 00 00 00 00")) [] []))) (range_with_len 0 28) ≡ Err (fault_at is.Ends 10) ∷ Err (fault_at is.Ends 11) ∷ Err (fault_at is.Ends 12) ∷ Err (fault_at is.Ends 13) ∷ Err (fault_at is.Ends 14) ∷ Err (fault_at is.Ends 15) ∷ Err (fault_at is.Ends 16) ∷ Err (fault_at is.Ends 17) ∷ Err (fault_at is.Ends 18) ∷ Err (fault_at is.Ends 19) ∷ Err (fault_at is.Ends 20) ∷ Err (fault_at is.Ends 21) ∷ Err (fault_at is.Ends 22) ∷ Err (fault_at is.Ends 23) ∷ Err (fault_at is.Ends 24) ∷ Err (fault_at is.Ends 25) ∷ Err (fault_at is.Ends 26) ∷ Err (fault_at is.Ends 27) ∷ Err (fault_at is.NoZero 28) ∷ Err (fault_at is.NoZero 28) ∷ Err (fault_at is.NoZero 30) ∷ Err (fault_at is.NoZero 31) ∷ Err (fault_at is.NoZero 31) ∷ Err (fault_at is.Ends 33) ∷ Err (fault_at is.Ends 34) ∷ Err (fault_at is.Ends 35) ∷ Err (fault_at is.NoZero 36) ∷ Ok 1 ∷ []
unfolding line_program_computes tables_compute
each_cut_of_the_header = refl

-- Values of fields that are not allowed.
two_operations : paths "/s" (counted 4 (contents 4 (hex "01 02 01 fd 0c 0d 00 01 01 01 01 00 00 00 01 00 00 01") (hex "00 00") [])) ≡ Err (fault_at is.LineHeader 0x0)
unfolding line_program_computes tables_compute
two_operations = refl

line_range_0 : paths "/s" (counted 4 (contents 4 (hex "01 01 01 fd 00 0d 00 01 01 01 01 00 00 00 01 00 00 01") (hex "00 00") [])) ≡ Err (fault_at is.LineHeader 0x0)
unfolding line_program_computes tables_compute
line_range_0 = refl

opcode_base_0 : paths "/s" (counted 4 (contents 4 (hex "01 01 01 fd 0c 00 00 01 01 01 01 00 00 00 01 00 00 01") (hex "00 00") [])) ≡ Err (fault_at is.LineHeader 0x0)
unfolding line_program_computes tables_compute
opcode_base_0 = refl

-- A maximum of 0 operations is allowed.
no_operations : paths "/s" (counted 4 (contents 4 (hex "01 00 01 fd 0c 0d 00 01 01 01 01 00 00 00 01 00 00 01") (hex "00 00") [])) ≡ Ok []
unfolding line_program_computes tables_compute
no_operations = refl

opcode_base_1 : paths "/s" (counted 4 (contents 4 (hex "01 01 01 fd 0c 01") (hex "00 00") [])) ≡ Ok []
unfolding line_program_computes tables_compute
opcode_base_1 = refl

program_at_the_end : paths "/s" (table 4 "00 00" "") ≡ Ok []
unfolding line_program_computes tables_compute
program_at_the_end = refl

-- Bytes between the tables and the program are ignored.
bytes_before_the_program : paths "/s" (table 4 "00 00 ffff" "") ≡ Ok []
unfolding line_program_computes tables_compute
bytes_before_the_program = refl

-- A fault of the program.
fault_of_the_program : paths "/s" (table 4 "00 00" "01 00 00") ≡ Err (fault_at is.LineOpcode 0x1f)
unfolding line_program_computes tables_compute
fault_of_the_program = refl

fault_of_the_program_at_40 : paths "/s" (table 4 "61616161616161616161616161616161616161616161616161616161616161616100 00 00" "00 00") ≡ Err (fault_at is.LineOpcode 0x40)
unfolding line_program_computes tables_compute
fault_of_the_program_at_40 = refl

-- Offsets at the end and after it.
offset_at_the_end : first_file 3 (hex "000000") ≡ Err (fault_at is.Ends 0x3)
unfolding line_program_computes tables_compute
offset_at_the_end = refl

offset_outside : first_file 4 (hex "000000") ≡ Err (record { kind = is.OffsetOutside; section = Info; at = 0xb })
unfolding line_program_computes tables_compute
offset_outside = refl

-- Places of faults are those in the section.
a_table_behind_another : first_file 0x1f (table 4 "00 00" "01" ++ table 2 "00 00" "01 00 00") ≡ Err (fault_at is.LineOpcode 0x3d)
unfolding line_program_computes tables_compute
a_table_behind_another = refl

-- Files are numbered from 1, in version 5 from 0.
first_file_of_version_4 : first_file 0 (table 4 "00 00" "") ≡ Ok 1
unfolding line_program_computes tables_compute
first_file_of_version_4 = refl

first_file_of_version_5 : first_file 0 (table 5 "00 00 00 00" "") ≡ Ok 0
unfolding line_program_computes tables_compute
first_file_of_version_5 = refl

-- The 64-bit format.
wide : first_file 0 (wide_table 4 "00 00" "") ≡ Ok 1
unfolding line_program_computes tables_compute
wide = refl
