-- Worked examples: the frame entries of files, their records, and entries that are left out.
use Rattle.std.proofs.Common.{◌≡◌, ℕ, ◌+◌, List, [], ◌∷◌, ◌++◌, length, take, drop, replicate, codes, true, refl}
use Prim.Native.String.{String}
use Rattle.std.specs.Prelude.{slice_set}
use Rattle.std.specs.List.{list_all, range_with_len}
use Rattle.sym_edges.proofs.Hex.{little}
use Rattle.worked.proofs.Elf.{Section, loaded, progbits, code, code_named, null, file_of, hex}
use Rattle.worked.proofs.Small.{dump, refuses, id, gives, gives_and_omits, refused, files}

-- `.eh_frame` of a CIE with the CFA at rsp + 8 and the return address at the CFA - 8. At 18 it has
-- the FDE of a function from 1000 to 1020 that pushes rbp, and then the zero that ends the section.
abbrev push_rbp : List ℕ
push_rbp =
    hex "14000000 00000000 01 7a5200 01 78 10 01 1b 0c0708 9001 0000 1c000000 1c000000 e0efffff 20000000 00 41 0e10 8602 43 0d06 4a 0c0708 000000 00000000"

-- The section, loaded at 2000.
abbrev eh_frame : List ℕ → Section
eh_frame bytes = record { name = codes ".eh_frame"; kind = 1; flags = 0; address = 0x2000; link = 0; content = bytes }

-- The CIE, and an FDE from 1000 on with a size and instructions.
unfoldable own : ℕ → String → List ℕ
own size instructions =
    take 24 push_rbp ++ little 4 (13 + length (hex instructions)) ++ hex "1c000000 e0efffff" ++ little 4 size ++ 0 ∷ hex instructions

-- `.debug_frame` of a CIE with the same rules, and of an FDE from 1000 on with a size and no
-- instructions.
abbrev debug_frame : ℕ → Section
debug_frame size =
    progbits ".debug_frame" (hex "14000000 ffffffff 01 00 01 78 10 0c0708 9001 000000000000 14000000 00000000 0010000000000000" ++ little 8 size)

-- Sections of frame entries that are refused.
abbrev wide : Section
wide = eh_frame (hex "ffffffff")

abbrev cut : Section
cut = progbits ".debug_frame" (0 ∷ [])

-- 32 bytes of code.
abbrev body : List ℕ
body = replicate 32 0x90

-- A file with a base, a build id, code from 1000 to 1020, and further sections.
unfoldable framed_at : ℕ → List Section → List ℕ
framed_at base back = file_of (loaded base ∷ []) (null ∷ id ∷ code 0x1000 body ∷ back)

unfoldable framed : List Section → List ℕ
framed back = framed_at 0 back

unfoldable with_eh : List ℕ → List ℕ
with_eh bytes = framed (eh_frame bytes ∷ [])

-- A function that pushes rbp has four records.
push_rbp_lines : dump (with_eh push_rbp)
    ≡ gives "STACK CFI INIT 1000 20 .cfa: $rsp 8 + .ra: .cfa -8 + ^\nSTACK CFI 1001 .cfa: $rsp 16 + $rbp: .cfa -16 + ^\nSTACK CFI 1004 .cfa: $rbp 16 +\nSTACK CFI 100e .cfa: $rsp 8 +\n"
unfolding files own framed_at framed with_eh
push_rbp_lines = refl

-- Instructions become records.
no_return_address : dump (with_eh (own 0x20 "0710")) ≡ gives "STACK CFI INIT 1000 20 .cfa: $rsp 8 +\n"
unfolding files own framed_at framed with_eh
no_return_address = refl

a_column_that_becomes_undefined : dump (with_eh (own 0x10 "44 8003 44 0700"))
    ≡ gives "STACK CFI INIT 1000 8 .cfa: $rsp 8 + .ra: .cfa -8 + ^\nSTACK CFI 1004 $rax: .cfa -24 + ^\nSTACK CFI INIT 1008 8 .cfa: $rsp 8 + .ra: .cfa -8 + ^\n"
unfolding files own framed_at framed with_eh
a_column_that_becomes_undefined = refl

a_column_that_is_restored : dump (with_eh (own 0x20 "41 8602 48 c6"))
    ≡ gives "STACK CFI INIT 1000 20 .cfa: $rsp 8 + .ra: .cfa -8 + ^\nSTACK CFI 1001 $rbp: .cfa -16 + ^\nSTACK CFI 1009 $rbp: $rbp\n"
unfolding files own framed_at framed with_eh
a_column_that_is_restored = refl

a_row_that_is_remembered : dump (with_eh (own 0x20 "0a 44 0e10 44 0b"))
    ≡ gives "STACK CFI INIT 1000 20 .cfa: $rsp 8 + .ra: .cfa -8 + ^\nSTACK CFI 1004 .cfa: $rsp 16 +\nSTACK CFI 1008 .cfa: $rsp 8 +\n"
unfolding files own framed_at framed with_eh
a_row_that_is_remembered = refl

-- An advance of 0 before the instructions changes nothing.
an_advance_of_0 : dump (with_eh (take 41 push_rbp ++ hex "40 41 0e10 8602 43 0d06 4a 0c0708 0000 00000000"))
    ≡ gives "STACK CFI INIT 1000 20 .cfa: $rsp 8 + .ra: .cfa -8 + ^\nSTACK CFI 1001 .cfa: $rsp 16 + $rbp: .cfa -16 + ^\nSTACK CFI 1004 .cfa: $rbp 16 +\nSTACK CFI 100e .cfa: $rsp 8 +\n"
unfolding files own framed_at framed with_eh
an_advance_of_0 = refl

-- Entries that are left out, with the reasons: one byte of the section is changed.
a_version_2 : dump (with_eh (slice_set push_rbp 8 0x02)) ≡ gives_and_omits "" "omitted eh_frame 18 cie\n"
unfolding files own framed_at framed with_eh
a_version_2 = refl

an_unknown_letter : dump (with_eh (slice_set push_rbp 10 0x58)) ≡ gives_and_omits "" "omitted eh_frame 18 augmentation\n"
unfolding files own framed_at framed with_eh
an_unknown_letter = refl

an_indirect_encoding : dump (with_eh (slice_set push_rbp 16 0x9b)) ≡ gives_and_omits "" "omitted eh_frame 18 encoding\n"
unfolding files own framed_at framed with_eh
an_indirect_encoding = refl

another_column : dump (with_eh (slice_set push_rbp 14 0x11)) ≡ gives_and_omits "" "omitted eh_frame 18 column\n"
unfolding files own framed_at framed with_eh
another_column = refl

augmentation_bytes_past_the_entry : dump (with_eh (slice_set push_rbp 40 0x7f)) ≡ gives_and_omits "" "omitted eh_frame 18 entry\n"
unfolding files own framed_at framed with_eh
augmentation_bytes_past_the_entry = refl

-- A block that leaves the entry, an expression that is a nop, and the expressions of a procedure
-- linkage table.
a_block_that_leaves_the_entry : dump (with_eh (slice_set push_rbp 41 0x16)) ≡ gives_and_omits "" "omitted eh_frame 18 instruction\n"
unfolding files own framed_at framed with_eh
a_block_that_leaves_the_entry = refl

an_expression : dump (with_eh (own 0x20 "0f0196")) ≡ gives_and_omits "" "omitted eh_frame 18 expression\n"
unfolding files own framed_at framed with_eh
an_expression = refl

a_linkage_table : dump (with_eh (own 0x20 "0e10 46 0e18 4a 0f0b 7708 8000 3f1a3b2a332422"))
    ≡ gives "STACK CFI INIT 1000 20 .cfa: $rsp 16 + .ra: .cfa -8 + ^\nSTACK CFI 1006 .cfa: $rsp 24 +\nSTACK CFI 1010 .cfa: $rsp 8 + $rip 0 + 16 % 5 + 16 / 8 * +\n"
unfolding files own framed_at framed with_eh
a_linkage_table = refl

no_such_opcode : dump (with_eh (slice_set push_rbp 41 0x3f)) ≡ gives_and_omits "" "omitted eh_frame 18 instruction\n"
unfolding files own framed_at framed with_eh
no_such_opcode = refl

a_cfa_register_16 : dump (with_eh (slice_set push_rbp 48 0x10)) ≡ gives_and_omits "" "omitted eh_frame 18 register\n"
unfolding files own framed_at framed with_eh
a_cfa_register_16 = refl

nothing_remembered : dump (with_eh (slice_set push_rbp 42 0x0b)) ≡ gives_and_omits "" "omitted eh_frame 18 state\n"
unfolding files own framed_at framed with_eh
nothing_remembered = refl

a_restore_alone : dump (with_eh (own 0x20 "0b")) ≡ gives_and_omits "" "omitted eh_frame 18 state\n"
unfolding files own framed_at framed with_eh
a_restore_alone = refl

an_advance_in_the_cie : dump (with_eh (slice_set push_rbp 22 0x41)) ≡ gives_and_omits "" "omitted eh_frame 18 range\n"
unfolding files own framed_at framed with_eh
an_advance_in_the_cie = refl

an_empty_range : dump (with_eh (slice_set push_rbp 36 0)) ≡ gives_and_omits "" "omitted eh_frame 18 outside\n"
unfolding files own framed_at framed with_eh
an_empty_range = refl

a_range_past_the_code : dump (with_eh (slice_set push_rbp 36 0x21)) ≡ gives_and_omits "" "omitted eh_frame 18 outside\n"
unfolding files own framed_at framed with_eh
a_range_past_the_code = refl

no_rule_for_the_cfa : dump (with_eh (hex "14000000 00000000 01 7a5200 01 78 10 01 1b 000000 9001 0000 1c000000 1c000000 e0efffff 20000000 00 00 0000 0000 00 0000 00 000000 000000 00000000"))
    ≡ gives_and_omits "" "omitted eh_frame 18 cfa\n"
unfolding files own framed_at framed with_eh
no_rule_for_the_cfa = refl

-- An entry that overlaps one before it is left out. An entry that was left out does not count for
-- this. The entries of `.eh_frame` come first.
both_sections : dump (framed (debug_frame 0x20 ∷ eh_frame push_rbp ∷ []))
    ≡ gives_and_omits "STACK CFI INIT 1000 20 .cfa: $rsp 8 + .ra: .cfa -8 + ^\nSTACK CFI 1001 .cfa: $rsp 16 + $rbp: .cfa -16 + ^\nSTACK CFI 1004 .cfa: $rbp 16 +\nSTACK CFI 100e .cfa: $rsp 8 +\n" "omitted debug_frame 18 overlap\n"
unfolding files own framed_at framed with_eh
both_sections = refl

the_first_is_left_out : dump (framed (debug_frame 0x20 ∷ eh_frame (slice_set push_rbp 42 0x0b) ∷ []))
    ≡ gives_and_omits "STACK CFI INIT 1000 20 .cfa: $rsp 8 + .ra: .cfa -8 + ^\n" "omitted eh_frame 18 state\n"
unfolding files own framed_at framed with_eh
the_first_is_left_out = refl

eh_frame_stands_first : dump (framed (debug_frame 0x10 ∷ eh_frame (slice_set (slice_set push_rbp 32 0xf0) 36 0x10) ∷ []))
    ≡ gives "STACK CFI INIT 1010 10 .cfa: $rsp 8 + .ra: .cfa -8 + ^\nSTACK CFI 1011 .cfa: $rsp 16 + $rbp: .cfa -16 + ^\nSTACK CFI 1014 .cfa: $rbp 16 +\nSTACK CFI 101e .cfa: $rsp 8 +\nSTACK CFI INIT 1000 10 .cfa: $rsp 8 + .ra: .cfa -8 + ^\n"
unfolding files own framed_at framed with_eh
eh_frame_stands_first = refl

-- An entry must lie in one range of code.
at_the_last_address : dump (with_eh (slice_set (slice_set push_rbp 32 0xff) 36 1))
    ≡ gives "STACK CFI INIT 101f 1 .cfa: $rsp 8 + .ra: .cfa -8 + ^\n"
unfolding files own framed_at framed with_eh
at_the_last_address = refl

across_two_sections : dump (framed (code_named ".more" 0x1020 body ∷ eh_frame (slice_set push_rbp 32 0xf0) ∷ []))
    ≡ gives_and_omits "" "omitted eh_frame 18 outside\n"
unfolding files own framed_at framed with_eh
across_two_sections = refl

-- Addresses count from the base.
from_a_base : dump (framed_at 0xff0 (eh_frame push_rbp ∷ []))
    ≡ gives "STACK CFI INIT 10 20 .cfa: $rsp 8 + .ra: .cfa -8 + ^\nSTACK CFI 11 .cfa: $rsp 16 + $rbp: .cfa -16 + ^\nSTACK CFI 14 .cfa: $rbp 16 +\nSTACK CFI 1e .cfa: $rsp 8 +\n"
unfolding files own framed_at framed with_eh
from_a_base = refl

-- Addresses are sums modulo 2^64.
a_pointer_past_the_last_address : dump (framed (record (eh_frame (take 32 push_rbp ++ hex "e01f0000" ++ drop 36 push_rbp)) { address = 0xfffffffffffff000 } ∷ []))
    ≡ gives "STACK CFI INIT 1000 20 .cfa: $rsp 8 + .ra: .cfa -8 + ^\nSTACK CFI 1001 .cfa: $rsp 16 + $rbp: .cfa -16 + ^\nSTACK CFI 1004 .cfa: $rbp 16 +\nSTACK CFI 100e .cfa: $rsp 8 +\n"
unfolding files own framed_at framed with_eh
a_pointer_past_the_last_address = refl

-- A section that is cut is refused at the entry that is cut.
cut_to_nothing : dump (with_eh (take 0 push_rbp)) ≡ gives ""
unfolding files own framed_at framed with_eh
cut_to_nothing = refl

cut_behind_the_cie : dump (with_eh (take 24 push_rbp)) ≡ gives ""
unfolding files own framed_at framed with_eh
cut_behind_the_cie = refl

cut_behind_the_fde : dump (with_eh (take 56 push_rbp))
    ≡ gives "STACK CFI INIT 1000 20 .cfa: $rsp 8 + .ra: .cfa -8 + ^\nSTACK CFI 1001 .cfa: $rsp 16 + $rbp: .cfa -16 + ^\nSTACK CFI 1004 .cfa: $rbp 16 +\nSTACK CFI 100e .cfa: $rsp 8 +\n"
unfolding files own framed_at framed with_eh
cut_behind_the_fde = refl

cut_in_the_cie : list_all (λ n. refuses "refused frame length eh_frame 0\n" (with_eh (take n push_rbp))) (range_with_len 1 23)
    ≡ true
unfolding files own framed_at framed with_eh
cut_in_the_cie = refl

cut_in_the_fde : list_all (λ n. refuses "refused frame length eh_frame 18\n" (with_eh (take n push_rbp))) (range_with_len 25 31)
    ≡ true
unfolding files own framed_at framed with_eh
cut_in_the_fde = refl

cut_in_the_zero : list_all (λ n. refuses "refused frame length eh_frame 38\n" (with_eh (take n push_rbp))) (range_with_len 57 3)
    ≡ true
unfolding files own framed_at framed with_eh
cut_in_the_zero = refl

-- The 64-bit format in `.debug_frame`: an FDE of the 32-bit format with a CIE of the 64-bit format,
-- and the same CIE in `.eh_frame`, which has no such format.
wide_frames : dump (framed (progbits ".debug_frame" (hex "ffffffff 1800000000000000 ffffffffffffffff 01 00 01 78 10 0c0708 9001 000000000000 ffffffff 2000000000000000 0000000000000000 0010000000000000 2000000000000000 41 0e10 8602 000000") ∷ []))
    ≡ gives "STACK CFI INIT 1000 20 .cfa: $rsp 8 + .ra: .cfa -8 + ^\nSTACK CFI 1001 .cfa: $rsp 16 + $rbp: .cfa -16 + ^\n"
unfolding files own framed_at framed with_eh
wide_frames = refl

both_formats : dump (framed (progbits ".debug_frame" (hex "ffffffff 1800000000000000 ffffffffffffffff 01 00 01 78 10 0c0708 9001 000000000000 1c000000 00000000 0010000000000000 2000000000000000 41 0e10 8602 000000") ∷ []))
    ≡ gives "STACK CFI INIT 1000 20 .cfa: $rsp 8 + .ra: .cfa -8 + ^\nSTACK CFI 1001 .cfa: $rsp 16 + $rbp: .cfa -16 + ^\n"
unfolding files own framed_at framed with_eh
both_formats = refl

a_wide_cie_in_eh_frame : dump (with_eh (hex "ffffffff 1800000000000000 ffffffffffffffff 01 00 01 78 10 0c0708 9001 000000000000")) ≡ refused "refused frame format64 eh_frame 0\n"
unfolding files own framed_at framed with_eh
a_wide_cie_in_eh_frame = refl

-- Faults of sections come in this order: units, `.eh_frame`, `.debug_frame`.
a_length_of_64_bits : dump (framed (wide ∷ eh_frame [] ∷ [])) ≡ refused "refused frame format64 eh_frame 0\n"
unfolding files own framed_at framed with_eh
a_length_of_64_bits = refl

eh_frame_first : dump (framed (cut ∷ wide ∷ [])) ≡ refused "refused frame format64 eh_frame 0\n"
unfolding files own framed_at framed with_eh
eh_frame_first = refl

debug_frame_behind : dump (framed (cut ∷ eh_frame push_rbp ∷ [])) ≡ refused "refused frame length debug_frame 0\n"
unfolding files own framed_at framed with_eh
debug_frame_behind = refl

debug_entries_before_frames : dump (framed (progbits ".debug_info" (0 ∷ []) ∷ wide ∷ [])) ≡ refused "refused dwarf ends debug_info 0\n"
unfolding files own framed_at framed with_eh
debug_entries_before_frames = refl

-- Skipped units are listed before frame entries that are left out.
a_unit_before_an_entry : dump (framed (progbits ".debug_info" (hex "07000000 0300 00000000 08") ∷ eh_frame (slice_set push_rbp 8 0x02) ∷ []))
    ≡ gives_and_omits "" "skipped debug_info 0 version 3\nomitted eh_frame 18 cie\n"
unfolding files own framed_at framed with_eh
a_unit_before_an_entry = refl
