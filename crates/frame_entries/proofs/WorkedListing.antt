-- Worked examples: the entries of a section up to its end, and the faults of their lengths.
use Rattle.std.proofs.Common.{◌≡◌, ℕ, negsuc, List, [], ◌∷◌, take, map, replicate, Some, Result, Ok, Err, refl}
use Prim.Native.String.{String}
use Rattle.std.specs.List.{range_with_len}
use Rattle.sym_edges.specs.declared.part.Sect.{Sect}
use Rattle.sym_edges.specs.declared.part.Sect.TheVariants.{EhFrame, DebugFrame}
use Rattle.sym_edges.specs.declared.reason.Reason.TheVariants as reason
use Rattle.sym_edges.specs.declared.located.Located.{Located}
use Rattle.frame_entries.specs.declared.fault.FrameKind.{FrameKind}
use Rattle.frame_entries.specs.declared.fault.FrameKind.TheVariants.{Length, Format64}
use Rattle.frame_entries.specs.declared.description.Body.TheVariants.{Good}
use Rattle.frame_entries.specs.FrameEntries.{frame_entries}
use Rattle.sym_edges.proofs.Hex.{hex}
use Rattle.frame_entries.proofs.Sections.{Seen, entries, fault_place, small, sections}

-- The entries of a section that is loaded at address 0.
unfoldable lists : Sect → String → Result (List (ℕ × Seen)) (Located FrameKind)
unfolding hex entries
lists which section = entries which 0 (hex section)

a_whole_entry : frame_entries small 0x2000 EhFrame ≡ Ok (record {
  section = EhFrame;
  at = 0x18;
  body = Good (record {
    cie = 0;
    start = 0x1000;
    size = 0x20;
    code_align = 1;
    data_align = negsuc 7;
    encoding = 0x1b;
    initial_instructions = hex "0c0708 9001 0000";
    instructions = hex "41 0e10 8602 43 0d06 4a 0c0708 000000";
    instructions_address = 0x2029;
  });
} ∷ [])
unfolding sections
a_whole_entry = refl

-- If the section is cut, the fault is at the entry that is cut.
cut_in_the_cie : map (λ size. fault_place (entries EhFrame 0x2000 (take size small))) (range_with_len 1 23) ≡ replicate 23 (Some 0)
unfolding sections
cut_in_the_cie = refl

cut_in_the_fde : map (λ size. fault_place (entries EhFrame 0x2000 (take size small))) (range_with_len 25 31) ≡ replicate 31 (Some 24)
unfolding sections
cut_in_the_fde = refl

cut_in_the_zero : map (λ size. fault_place (entries EhFrame 0x2000 (take size small))) (range_with_len 57 3) ≡ replicate 3 (Some 56)
unfolding sections
cut_in_the_zero = refl

cut_to_nothing : entries EhFrame 0x2000 (take 0 small) ≡ Ok []
unfolding sections
cut_to_nothing = refl

cut_behind_the_cie : entries EhFrame 0x2000 (take 24 small) ≡ Ok []
unfolding sections
cut_behind_the_cie = refl

cut_behind_the_fde : entries EhFrame 0x2000 (take 56 small) ≡ Ok ((0x18, Ok (0x1000, 0x20)) ∷ [])
unfolding sections
cut_behind_the_fde = refl

not_cut : entries EhFrame 0x2000 (take 60 small) ≡ Ok ((0x18, Ok (0x1000, 0x20)) ∷ [])
unfolding sections
not_cut = refl

-- Lengths that are refused, in both sections.
format_64_in_eh_frame : lists EhFrame "ffffffff" ≡ Err (record { kind = Format64; section = EhFrame; at = 0 })
unfolding sections lists
format_64_in_eh_frame = refl

format_64_with_bytes_in_eh_frame : lists EhFrame "ffffffff 04000000 00000000 00000000" ≡ Err (record { kind = Format64; section = EhFrame; at = 0 })
unfolding sections lists
format_64_with_bytes_in_eh_frame = refl

the_last_reserved_length_in_eh_frame : lists EhFrame "feffffff" ≡ Err (record { kind = Length; section = EhFrame; at = 0 })
unfolding sections lists
the_last_reserved_length_in_eh_frame = refl

the_first_reserved_length_in_eh_frame : lists EhFrame "f0ffffff" ≡ Err (record { kind = Length; section = EhFrame; at = 0 })
unfolding sections lists
the_first_reserved_length_in_eh_frame = refl

no_room_for_the_id_1_in_eh_frame : lists EhFrame "01000000 00000000" ≡ Err (record { kind = Length; section = EhFrame; at = 0 })
unfolding sections lists
no_room_for_the_id_1_in_eh_frame = refl

no_room_for_the_id_3_in_eh_frame : lists EhFrame "03000000 00000000" ≡ Err (record { kind = Length; section = EhFrame; at = 0 })
unfolding sections lists
no_room_for_the_id_3_in_eh_frame = refl

one_byte_too_many_in_eh_frame : lists EhFrame "05000000 00000000" ≡ Err (record { kind = Length; section = EhFrame; at = 0 })
unfolding sections lists
one_byte_too_many_in_eh_frame = refl

one_byte_left_in_eh_frame : lists EhFrame "00" ≡ Err (record { kind = Length; section = EhFrame; at = 0 })
unfolding sections lists
one_byte_left_in_eh_frame = refl

three_bytes_left_in_eh_frame : lists EhFrame "000000" ≡ Err (record { kind = Length; section = EhFrame; at = 0 })
unfolding sections lists
three_bytes_left_in_eh_frame = refl

no_length_of_format_64_in_debug_frame : lists DebugFrame "ffffffff" ≡ Err (record { kind = Length; section = DebugFrame; at = 0 })
unfolding sections lists
no_length_of_format_64_in_debug_frame = refl

the_last_reserved_length_in_debug_frame : lists DebugFrame "feffffff" ≡ Err (record { kind = Length; section = DebugFrame; at = 0 })
unfolding sections lists
the_last_reserved_length_in_debug_frame = refl

the_first_reserved_length_in_debug_frame : lists DebugFrame "f0ffffff" ≡ Err (record { kind = Length; section = DebugFrame; at = 0 })
unfolding sections lists
the_first_reserved_length_in_debug_frame = refl

no_room_for_the_id_1_in_debug_frame : lists DebugFrame "01000000 00000000" ≡ Err (record { kind = Length; section = DebugFrame; at = 0 })
unfolding sections lists
no_room_for_the_id_1_in_debug_frame = refl

no_room_for_the_id_3_in_debug_frame : lists DebugFrame "03000000 00000000" ≡ Err (record { kind = Length; section = DebugFrame; at = 0 })
unfolding sections lists
no_room_for_the_id_3_in_debug_frame = refl

one_byte_too_many_in_debug_frame : lists DebugFrame "05000000 00000000" ≡ Err (record { kind = Length; section = DebugFrame; at = 0 })
unfolding sections lists
one_byte_too_many_in_debug_frame = refl

one_byte_left_in_debug_frame : lists DebugFrame "00" ≡ Err (record { kind = Length; section = DebugFrame; at = 0 })
unfolding sections lists
one_byte_left_in_debug_frame = refl

three_bytes_left_in_debug_frame : lists DebugFrame "000000" ≡ Err (record { kind = Length; section = DebugFrame; at = 0 })
unfolding sections lists
three_bytes_left_in_debug_frame = refl

-- The 64-bit format in `.debug_frame`: lengths and ids of eight bytes, and entries of both formats
-- in one section.
format_64 : lists DebugFrame "ffffffff 1800000000000000 ffffffffffffffff 01 00 01 78 10 0c0708 9001 000000000000 ffffffff 2000000000000000 0000000000000000 0010000000000000 2000000000000000 41 0e10 8602 000000" ≡ Ok ((0x24, Ok (0x1000, 0x20)) ∷ [])
unfolding sections lists
format_64 = refl

a_whole_entry_of_format_64 : frame_entries (hex "ffffffff 1800000000000000 ffffffffffffffff 01 00 01 78 10 0c0708 9001 000000000000 ffffffff 2000000000000000 0000000000000000 0010000000000000 2000000000000000 41 0e10 8602 000000") 0x3000 DebugFrame ≡ Ok (record {
  section = DebugFrame;
  at = 0x24;
  body = Good (record {
    cie = 0;
    start = 0x1000;
    size = 0x20;
    code_align = 1;
    data_align = negsuc 7;
    encoding = 0;
    initial_instructions = hex "0c0708 9001 000000000000";
    instructions = hex "41 0e10 8602 000000";
    instructions_address = 0x3048;
  });
} ∷ [])
unfolding sections
a_whole_entry_of_format_64 = refl

format_64_in_eh_frame_alone : lists EhFrame "ffffffff 1800000000000000 ffffffffffffffff 01 00 01 78 10 0c0708 9001 000000000000" ≡ Err (record { kind = Format64; section = EhFrame; at = 0 })
unfolding sections lists
format_64_in_eh_frame_alone = refl

an_fde_of_32_bits_with_a_cie_of_64 : lists DebugFrame "ffffffff 1800000000000000 ffffffffffffffff 01 00 01 78 10 0c0708 9001 000000000000 1c000000 00000000 0010000000000000 2000000000000000 41 0e10 8602 000000" ≡ Ok ((0x24, Ok (0x1000, 0x20)) ∷ [])
unfolding sections lists
an_fde_of_32_bits_with_a_cie_of_64 = refl

an_fde_of_64_bits_with_a_cie_of_32 : lists DebugFrame "14000000 ffffffff 01 00 01 78 10 0c0708 9001 000000000000 ffffffff 2000000000000000 0000000000000000 0010000000000000 2000000000000000 41 0e10 8602 000000" ≡ Ok ((0x18, Ok (0x1000, 0x20)) ∷ [])
unfolding sections lists
an_fde_of_64_bits_with_a_cie_of_32 = refl

an_fde_of_64_bits_in_front_of_its_cie : lists DebugFrame "ffffffff 2000000000000000 2c00000000000000 0010000000000000 2000000000000000 41 0e10 8602 000000 ffffffff 1800000000000000 ffffffffffffffff 01 00 01 78 10 0c0708 9001 000000000000" ≡ Ok ((0, Ok (0x1000, 0x20)) ∷ [])
unfolding sections lists
an_fde_of_64_bits_in_front_of_its_cie = refl

-- An id of eight bytes that is ffffffff is the place of a CIE, and no place is taken modulo 2^32.
the_id_ffffffff_in_format_64 : lists DebugFrame "ffffffff 1800000000000000 ffffffffffffffff 01 00 01 78 10 0c0708 9001 000000000000 ffffffff 2000000000000000 ffffffff00000000 0010000000000000 2000000000000000 41 0e10 8602 000000" ≡ Ok ((0x24, Err reason.Cie) ∷ [])
unfolding sections lists
the_id_ffffffff_in_format_64 = refl

an_id_of_2_to_the_32 : lists DebugFrame "ffffffff 1800000000000000 ffffffffffffffff 01 00 01 78 10 0c0708 9001 000000000000 ffffffff 2000000000000000 0000000001000000 0010000000000000 2000000000000000 41 0e10 8602 000000" ≡ Ok ((0x24, Err reason.Cie) ∷ [])
unfolding sections lists
an_id_of_2_to_the_32 = refl

-- Lengths of the 64-bit format: below 8, past the section's end, past 2^64, fffffff0, and a cut
-- one.
no_room_for_the_id_0_in_format_64 : lists DebugFrame "ffffffff 0000000000000000 0000000000000000" ≡ Err (record { kind = Length; section = DebugFrame; at = 0 })
unfolding sections lists
no_room_for_the_id_0_in_format_64 = refl

no_room_for_the_id_7_in_format_64 : lists DebugFrame "ffffffff 0700000000000000 0000000000000000" ≡ Err (record { kind = Length; section = DebugFrame; at = 0 })
unfolding sections lists
no_room_for_the_id_7_in_format_64 = refl

room_for_the_id_alone_in_format_64 : lists DebugFrame "ffffffff 0800000000000000 0000000000000000" ≡ Ok ((0, Err reason.Cie) ∷ [])
unfolding sections lists
room_for_the_id_alone_in_format_64 = refl

one_byte_too_many_in_format_64 : lists DebugFrame "00000000 ffffffff 0900000000000000 0000000000000000" ≡ Err (record { kind = Length; section = DebugFrame; at = 4 })
unfolding sections lists
one_byte_too_many_in_format_64 = refl

a_reserved_length_in_format_64 : lists DebugFrame "ffffffff f0ffffff00000000 0000000000000000" ≡ Err (record { kind = Length; section = DebugFrame; at = 0 })
unfolding sections lists
a_reserved_length_in_format_64 = refl

the_greatest_length_in_format_64 : lists DebugFrame "ffffffff ffffffffffffffff 0000000000000000" ≡ Err (record { kind = Length; section = DebugFrame; at = 0 })
unfolding sections lists
the_greatest_length_in_format_64 = refl

a_cut_length_in_format_64 : lists DebugFrame "ffffffff 18000000000000" ≡ Err (record { kind = Length; section = DebugFrame; at = 0 })
unfolding sections lists
a_cut_length_in_format_64 = refl

-- A length of 0 ends `.eh_frame`. In `.debug_frame` entries may follow it.
ended_by_zero : lists EhFrame "00000000 01000000" ≡ Ok []
unfolding sections lists
ended_by_zero = refl

zero_passed_over : lists DebugFrame "00000000 01000000" ≡ Err (record { kind = Length; section = DebugFrame; at = 4 })
unfolding sections lists
zero_passed_over = refl

zeros_alone : lists DebugFrame "00000000 00000000" ≡ Ok []
unfolding sections lists
zeros_alone = refl

-- A CIE after its FDE.
a_cie_behind_its_fde : lists DebugFrame "14000000 18000000 00100000 00000000 20000000 00000000 09000000 ffffffff 01 00 01 78 10" ≡ Ok ((0, Ok (0x1000, 0x20)) ∷ [])
unfolding sections lists
a_cie_behind_its_fde = refl

-- Sections as compilers, assemblers and linkers write them, with the entries that `readelf
-- --debug-dump=frames` shows.

-- gcc 12: a small program with the C library's start code and the procedure linkage table of the
-- linker.
unfoldable gcc_eh : List ℕ
unfolding hex
gcc_eh = hex "14000000 00000000 017a5200 01781001 1b0c0708 90010710 14000000 1c000000 e0efffff 22000000 00000000 00000000 14000000 00000000 017a5200 01781001 1b0c0708 90010000 24000000 1c000000 90efffff 10000000 000e1046 0e184a0f 0b770880 003f1a3b 2a332422 00000000 14000000 44000000 78efffff 08000000 00000000 00000000 10000000 5c000000 59f0ffff 05000000 00000000 10000000 70000000 4af0ffff 2c000000 00000000 14000000 84000000 62f0ffff 2c000000 00440e18 670e0800 00000000"

gcc_eh_entries : entries EhFrame 0x2040 gcc_eh ≡ Ok ((0x18, Ok (0x1040, 0x22)) ∷ (0x48, Ok (0x1020, 0x10)) ∷ (0x70, Ok (0x1030, 0x8)) ∷ (0x88, Ok (0x1129, 0x5)) ∷ (0x9c, Ok (0x112e, 0x2c)) ∷ (0xb0, Ok (0x115a, 0x2c)) ∷ [])
unfolding sections gcc_eh
gcc_eh_entries = refl

-- gas and ld: a personality with a table, a signal frame, a return address in a register, and
-- another return address column.
unfoldable gas_eh : List ℕ
unfolding hex
gas_eh = hex "1c000000 00000000 017a504c 52000178 10071bef efffff1b 1b0c0708 90010000 1c000000 24000000 d0efffff 03000000 04c7ffff ff410e10 8602410e 08000000 14000000 00000000 017a5253 00017810 011b0c07 08900100 10000000 1c000000 9befffff 02000000 00410710 14000000 00000000 017a5200 01781001 1b0c0708 90010000 14000000 1c000000 71efffff 03000000 00410910 02410803 14000000 00000000 017a5200 01780801 1b0c0708 90010000 10000000 1c000000 44efffff 02000000 00000000"

gas_eh_entries : entries EhFrame 0x402008 gas_eh ≡ Ok ((0x20, Ok (0x401000, 0x3)) ∷ (0x58, Ok (0x401003, 0x2)) ∷ (0x84, Ok (0x401005, 0x3)) ∷ (0xb4, Err reason.Column) ∷ [])
unfolding sections gas_eh
gas_eh_entries = refl

-- gas and ld, `.debug_frame`.
unfoldable gas_debug : List ℕ
unfolding hex
gas_debug = hex "14000000 ffffffff 01000178 100c0708 90010000 00000000 1c000000 00000000 00104000 00000000 03000000 00000000 410e1086 02410e08 1c000000 00000000 03104000 00000000 02000000 00000000 41071000 00000000 1c000000 00000000 05104000 00000000 03000000 00000000 41091002 41080300 14000000 ffffffff 01000178 080c0708 90010000 00000000 14000000 78000000 08104000 00000000 02000000 00000000"

gas_debug_entries : entries DebugFrame 0 gas_debug ≡ Ok ((0x18, Ok (0x401000, 0x3)) ∷ (0x38, Ok (0x401003, 0x2)) ∷ (0x58, Ok (0x401005, 0x3)) ∷ (0x90, Err reason.Column) ∷ [])
unfolding sections gas_debug
gas_debug_entries = refl

-- clang 14, `.debug_frame`.
unfoldable clang_debug : List ℕ
unfolding hex
clang_debug = hex "14000000 ffffffff 04000800 0178100c 07089001 00000000 14000000 00000000 30110000 00000000 07000000 00000000 14000000 00000000 40110000 00000000 26000000 00000000 14000000 00000000 70110000 00000000 35000000 00000000"

clang_debug_entries : entries DebugFrame 0 clang_debug ≡ Ok ((0x18, Ok (0x1130, 0x7)) ∷ (0x30, Ok (0x1140, 0x26)) ∷ (0x48, Ok (0x1170, 0x35)) ∷ [])
unfolding sections clang_debug
clang_debug_entries = refl
