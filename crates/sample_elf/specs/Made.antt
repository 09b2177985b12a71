-- A generated ELF file of n units, byte by byte: ELF64 (System V ABI, chapters 4 and 5), DWARF 4 and 5.
use Rattle.std.specs.Prelude.{ℕ, ◌+◌, ◌*◌, ◌-◌, ◌^◌, ◌%◌, ◌==◌, List, [], ◌∷◌, length, replicate, codes, decimal, if◌then◌else◌}
use Rattle.std.specs.List.{concat, flat_map, range_with_len}
use Rattle.std.specs.Int.{w32, w64, to_le_bytes}
use Rattle.sample_elf.specs.declared.section.Section.{Section}

-- fields of four and eight bytes, low byte first
abbrev pub four : ℕ → List ℕ
four number = to_le_bytes w32 number

abbrev pub eight : ℕ → List ℕ
eight number = to_le_bytes w64 number

-- the code begins at 401000, and each unit k has 64 bytes of it: 32 bytes of fK, then 32 of gK
abbrev pub code_at : ℕ → ℕ
code_at k = 0x401000 + 64 * k

-- units of even numbers are of version 5, the others of version 4
abbrev pub by_version : ℕ → List ℕ → List ℕ → List ℕ
by_version k fifth fourth = if k % 2 == 0 then fifth else fourth

-- one list for each of the numbers below n, joined in their order
abbrev pub each_below : (ℕ → List ℕ) → ℕ → List ℕ
each_below piece n = flat_map piece (range_with_len 0 n)

-- the line program of a unit whose code begins at an address (DWARF 5 6.2.5): line 10 at that address, line 11 after 16 bytes, line 20 after 32, line
-- 21 after 48, and the end after 64
unfoldable pub line_program : ℕ → List ℕ
line_program code = concat (
    -- DW_LNE_set_address
    (0x00 ∷ 9 ∷ 0x02 ∷ []) ∷ eight code ∷
    -- DW_LNS_advance_line, DW_LNS_copy, DW_LNS_advance_pc; four times
    (0x03 ∷ 9 ∷ 0x01 ∷ 0x02 ∷ 16 ∷ 0x03 ∷ 1 ∷ 0x01 ∷ 0x02 ∷ 16 ∷ 0x03 ∷ 9 ∷ 0x01 ∷ 0x02 ∷ 16 ∷ 0x03 ∷ 1 ∷ 0x01 ∷ 0x02 ∷ 16 ∷ []) ∷
    -- DW_LNE_end_sequence
    (0x00 ∷ 1 ∷ 0x01 ∷ []) ∷ [])

-- the fields of a line table's header between the length of the header and its directories (DWARF 4 and 5 6.2.4): instructions of one byte, one
-- operation for each, all rows statements; line_base -5, line_range 14, opcode_base 13, and the operand counts of twelve opcodes
unfoldable pub line_fields : List ℕ
line_fields = 1 ∷ 1 ∷ 1 ∷ 0xfb ∷ 14 ∷ 13 ∷ 0 ∷ 1 ∷ 1 ∷ 1 ∷ 1 ∷ 0 ∷ 0 ∷ 0 ∷ 1 ∷ 0 ∷ 0 ∷ 1 ∷ []

-- in version 5, directories have a path (DW_LNCT_path as DW_FORM_string), files a path and a directory (DW_LNCT_directory_index as DW_FORM_data1);
-- the directory is /s, and the file uK.c has the numbers 0 and 1
unfoldable pub line_header_5 : ℕ → List ℕ
line_header_5 k = concat (line_fields ∷ (1 ∷ 0x01 ∷ 0x08 ∷ 1 ∷ []) ∷ codes "/s" ∷ (0 ∷ []) ∷ (2 ∷ 0x01 ∷ 0x08 ∷ 0x02 ∷ 0x0b ∷ 2 ∷ []) ∷
    codes "u" ∷ decimal k ∷ codes ".c" ∷ (0 ∷ 0 ∷ []) ∷ codes "u" ∷ decimal k ∷ codes ".c" ∷ (0 ∷ 0 ∷ []) ∷ [])

-- in version 4, no directory but the compilation directory; the file has the number 1, that directory, and an unknown time and length
unfoldable pub line_header_4 : ℕ → List ℕ
line_header_4 k = concat (line_fields ∷ (0 ∷ []) ∷ codes "u" ∷ decimal k ∷ codes ".c" ∷ (0 ∷ 0 ∷ 0 ∷ 0 ∷ 0 ∷ []) ∷ [])

abbrev pub line_header : ℕ → List ℕ
line_header k = by_version k (line_header_5 k) (line_header_4 k)

-- a line table after its length; version 5 also gives the sizes of addresses and of segment selectors
unfoldable pub line_body : ℕ → List ℕ
line_body k = concat (by_version k (5 ∷ 0 ∷ 8 ∷ 0 ∷ []) (4 ∷ 0 ∷ []) ∷ four (length (line_header k)) ∷ line_header k ∷ line_program (code_at k) ∷ [])

unfoldable pub line_table : ℕ → List ℕ
line_table k = concat (four (length (line_body k)) ∷ line_body k ∷ [])

-- `.debug_line`
unfoldable pub line_tables : ℕ → List ℕ
line_tables n = each_below line_table n

-- `.debug_abbrev`, the same for all units: pairs of attribute and form (DWARF 5 7.5.3, 7.5.5 and
-- 7.5.6). A compilation unit has a name, a compilation directory, a line table, a first address and
-- a size. A function has a name, a first address and a size; one abbreviation is for functions with
-- children, one for those without. An inlined copy has its origin, a first address, a size, and the
-- file and the line of its call
unfoldable pub abbreviations : List ℕ
abbreviations =
    1 ∷ 0x11 ∷ 1 ∷ 0x03 ∷ 0x08 ∷ 0x1b ∷ 0x08 ∷ 0x10 ∷ 0x17 ∷ 0x11 ∷ 0x01 ∷ 0x12 ∷ 0x06 ∷ 0 ∷ 0 ∷
    2 ∷ 0x2e ∷ 1 ∷ 0x03 ∷ 0x08 ∷ 0x11 ∷ 0x01 ∷ 0x12 ∷ 0x06 ∷ 0 ∷ 0 ∷
    3 ∷ 0x2e ∷ 0 ∷ 0x03 ∷ 0x08 ∷ 0x11 ∷ 0x01 ∷ 0x12 ∷ 0x06 ∷ 0 ∷ 0 ∷
    4 ∷ 0x1d ∷ 0 ∷ 0x31 ∷ 0x13 ∷ 0x11 ∷ 0x01 ∷ 0x12 ∷ 0x06 ∷ 0x58 ∷ 0x0b ∷ 0x59 ∷ 0x0b ∷ 0 ∷ 0 ∷
    0 ∷ []

-- the root entry of a unit, given the digits of its number, its first address and the offset of its line table: first its name and compilation
-- directory, then its line table, first address and size
unfoldable pub root_texts : List ℕ → List ℕ
root_texts digits = concat ((1 ∷ []) ∷ codes "u" ∷ digits ∷ codes ".c" ∷ (0 ∷ []) ∷ codes "/s" ∷ (0 ∷ []) ∷ [])

unfoldable pub root_numbers : ℕ → ℕ → List ℕ
root_numbers code table = concat (four table ∷ eight code ∷ (64 ∷ 0 ∷ 0 ∷ 0 ∷ []) ∷ [])

unfoldable pub unit_root : List ℕ → ℕ → ℕ → List ℕ
unit_root digits code table = concat (root_texts digits ∷ root_numbers code table ∷ [])

-- a unit between its length and its functions: the header (DWARF 4 and 5 7.5.1) and the root entry
unfoldable pub unit_front : ℕ → ℕ → ℕ → List ℕ
unit_front k code table = concat (by_version k (5 ∷ 0 ∷ 1 ∷ 8 ∷ 0 ∷ 0 ∷ 0 ∷ 0 ∷ []) (4 ∷ 0 ∷ 0 ∷ 0 ∷ 0 ∷ 0 ∷ 8 ∷ []) ∷ unit_root (decimal k) code table ∷ [])

-- the entry of a function of 32 bytes, with an abbreviation
unfoldable pub function : ℕ → List ℕ → ℕ → ℕ → List ℕ
function abbreviation letter k address = concat ((abbreviation ∷ []) ∷ letter ∷ decimal k ∷ (0 ∷ []) ∷ eight address ∷ (32 ∷ 0 ∷ 0 ∷ 0 ∷ []) ∷ [])

-- the copy of gK in fK, from byte 8 of fK on, 8 bytes long, called from line 5 of file 1; `origin` is the offset of gK in the unit. Two zeros end the
-- children of fK and of the root
unfoldable pub inlined_copy : ℕ → ℕ → List ℕ
inlined_copy code origin = concat ((4 ∷ []) ∷ four origin ∷ eight (code + 8) ∷ (8 ∷ 0 ∷ 0 ∷ 0 ∷ 1 ∷ 5 ∷ 0 ∷ 0 ∷ []) ∷ [])

-- gK; then fK, with the copy of gK in it
unfoldable pub unit_functions : ℕ → ℕ → ℕ → List ℕ
unit_functions k code origin = concat (function 3 (codes "g") k (code + 32) ∷ function 2 (codes "f") k code ∷ inlined_copy code origin ∷ [])

-- gK follows the length, the header and the root
unfoldable pub unit_body : ℕ → ℕ → ℕ → List ℕ
unit_body k code table = concat (unit_front k code table ∷ unit_functions k code (4 + length (unit_front k code table)) ∷ [])

unfoldable pub unit : ℕ → ℕ → ℕ → List ℕ
unit k code table = concat (four (length (unit_body k code table)) ∷ unit_body k code table ∷ [])

-- the line table of a unit follows those of the units before it
abbrev pub numbered_unit : ℕ → List ℕ
numbered_unit k = unit k (code_at k) (length (line_tables k))

-- `.debug_info`
unfoldable pub units : ℕ → List ℕ
units n = each_below numbered_unit n

-- the CIE (DWARF 5 6.4.1; the augmentation `zR` of the System V ABI's .eh_frame): code alignment 1, data alignment -8, return address in column 16,
-- pointers of four bytes, signed and relative to their place; CFA = rsp + 8, and the return address is saved at CFA - 8
unfoldable pub common_entry : List ℕ
common_entry = 20 ∷ 0 ∷ 0 ∷ 0 ∷ 0 ∷ 0 ∷ 0 ∷ 0 ∷ 1 ∷ 0x7a ∷ 0x52 ∷ 0 ∷ 1 ∷ 0x78 ∷ 16 ∷ 1 ∷ 0x1b ∷ 0x0c ∷ 7 ∷ 8 ∷ 0x90 ∷ 1 ∷ 0 ∷ 0 ∷ []

-- instructions of a good entry: after one byte of code CFA = rsp + 16, and rbp is saved at CFA - 16
abbrev pub usual : List ℕ
usual = 0 ∷ 0x41 ∷ 0x0e ∷ 16 ∷ 0x86 ∷ 2 ∷ 0 ∷ 0 ∷ []

-- instructions of a bad entry, which a dump omits: a state is restored that was not remembered
abbrev pub bad : List ℕ
bad = 0 ∷ 0x0b ∷ 0 ∷ 0 ∷ 0 ∷ 0 ∷ 0 ∷ 0 ∷ []

-- the FDE number j, for 32 bytes of code from 401000 + 32 j on. Its pointer to the code is 8 bytes into the FDE and relative to that place, so it is
-- negative: `.eh_frame` follows the code. Both places are counted from 401000
unfoldable pub frame_entry : ℕ → ℕ → List ℕ → List ℕ
frame_entry n j instructions = concat (four 20 ∷ four (28 + 24 * j) ∷ four (2 ^ 32 + 32 * j - (64 * n + 24 + 24 * j + 8)) ∷ four 32 ∷ instructions ∷ [])

-- the FDEs of fK and gK; that of every tenth gK is bad
unfoldable pub unit_frames : ℕ → ℕ → List ℕ
unit_frames n k = concat (frame_entry n (2 * k) usual ∷ frame_entry n (2 * k + 1) (if k % 10 == 9 then bad else usual) ∷ [])

-- `.eh_frame`, with its end
unfoldable pub frames : ℕ → List ℕ
frames n = concat (common_entry ∷ each_below (unit_frames n) n ∷ (0 ∷ 0 ∷ 0 ∷ 0 ∷ []) ∷ [])

-- the note of the build id: 20 bytes, each the low byte of n
unfoldable pub build_id : ℕ → List ℕ
build_id n = concat ((4 ∷ 0 ∷ 0 ∷ 0 ∷ 20 ∷ 0 ∷ 0 ∷ 0 ∷ 3 ∷ 0 ∷ 0 ∷ 0 ∷ []) ∷ codes "GNU" ∷ (0 ∷ []) ∷ replicate 20 (n % 256) ∷ [])

-- the names of sections
unfoldable pub section_names : List ℕ
section_names = concat ((0 ∷ []) ∷ codes ".note.gnu.build-id" ∷ (0 ∷ []) ∷ codes ".text" ∷ (0 ∷ []) ∷ codes ".eh_frame" ∷ (0 ∷ []) ∷
    codes ".debug_abbrev" ∷ (0 ∷ []) ∷ codes ".debug_info" ∷ (0 ∷ []) ∷ codes ".debug_line" ∷ (0 ∷ []) ∷ codes ".shstrtab" ∷ (0 ∷ []) ∷ [])

-- the places of the sections in the file: one after another, from the code at 1000 on
abbrev pub frames_at : ℕ → ℕ
frames_at n = 0x1000 + 64 * n

abbrev pub abbreviations_at : ℕ → ℕ
abbreviations_at n = frames_at n + length (frames n)

abbrev pub units_at : ℕ → ℕ
units_at n = abbreviations_at n + length abbreviations

abbrev pub lines_at : ℕ → ℕ
lines_at n = units_at n + length (units n)

abbrev pub names_at : ℕ → ℕ
names_at n = lines_at n + length (line_tables n)

abbrev pub headers_at : ℕ → ℕ
headers_at n = names_at n + length section_names

-- a section header; link, info and entry size are 0
unfoldable pub section_header : Section → List ℕ
section_header s = concat (four s.name ∷ four s.kind ∷ eight s.flags ∷ eight s.address ∷ eight s.offset ∷ eight s.size ∷ replicate 8 0 ∷ eight s.alignment ∷ replicate 8 0 ∷ [])

-- a section that is not in memory
abbrev pub plain : ℕ → ℕ → ℕ → ℕ → Section
plain name kind offset size = record { name = name; kind = kind; flags = 0; address = 0; offset = offset; size = size; alignment = 1 }

-- the section headers: a null one; SHT_NOTE, in memory (SHF_ALLOC); code (SHF_EXECINSTR too); SHT_PROGBITS in memory; three that are not in memory;
-- SHT_STRTAB
unfoldable pub sections : ℕ → List Section
sections n =
    record { name = 0; kind = 0; flags = 0; address = 0; offset = 0; size = 0; alignment = 0 } ∷
    record { name = 1; kind = 7; flags = 2; address = 0x400078; offset = 0x78; size = 36; alignment = 4 } ∷
    record { name = 20; kind = 1; flags = 6; address = 0x401000; offset = 0x1000; size = 64 * n; alignment = 16 } ∷
    record { name = 26; kind = 1; flags = 2; address = 0x400000 + frames_at n; offset = frames_at n; size = length (frames n); alignment = 8 } ∷
    plain 36 1 (abbreviations_at n) (length abbreviations) ∷
    plain 50 1 (units_at n) (length (units n)) ∷
    plain 62 1 (lines_at n) (length (line_tables n)) ∷
    plain 74 3 (names_at n) (length section_names) ∷ []

-- the ELF header: ELFCLASS64, ELFDATA2LSB, EV_CURRENT; ET_EXEC, EM_X86_64; no entry point; the program header at 64, the section headers at an
-- offset; the sizes of the headers: one program header of 56 bytes, and eight section headers of 64 bytes, the last of which is that of the names
unfoldable pub file_header : ℕ → List ℕ
file_header headers = concat ((0x7f ∷ 0x45 ∷ 0x4c ∷ 0x46 ∷ 2 ∷ 1 ∷ 1 ∷ 0 ∷ 0 ∷ 0 ∷ 0 ∷ 0 ∷ 0 ∷ 0 ∷ 0 ∷ 0 ∷ []) ∷
    (2 ∷ 0 ∷ 0x3e ∷ 0 ∷ 1 ∷ 0 ∷ 0 ∷ 0 ∷ []) ∷ replicate 8 0 ∷ (64 ∷ 0 ∷ 0 ∷ 0 ∷ 0 ∷ 0 ∷ 0 ∷ 0 ∷ []) ∷ eight headers ∷
    (0 ∷ 0 ∷ 0 ∷ 0 ∷ 64 ∷ 0 ∷ 56 ∷ 0 ∷ 1 ∷ 0 ∷ 64 ∷ 0 ∷ 8 ∷ 0 ∷ 7 ∷ 0 ∷ []) ∷ [])

-- the program header: PT_LOAD, read and execute, the first `size` bytes of the file at 400000, in pages of 1000
unfoldable pub program_header : ℕ → List ℕ
program_header size = concat ((1 ∷ 0 ∷ 0 ∷ 0 ∷ 5 ∷ 0 ∷ 0 ∷ 0 ∷ []) ∷ replicate 8 0 ∷ (0 ∷ 0 ∷ 0x40 ∷ 0 ∷ 0 ∷ 0 ∷ 0 ∷ 0 ∷ []) ∷ (0 ∷ 0 ∷ 0x40 ∷ 0 ∷ 0 ∷ 0 ∷ 0 ∷ 0 ∷ []) ∷
    eight size ∷ eight size ∷ (0 ∷ 0x10 ∷ 0 ∷ 0 ∷ 0 ∷ 0 ∷ 0 ∷ 0 ∷ []) ∷ [])

-- what is before the code: 156 bytes, and zeros up to 1000. Everything up to the end of `.eh_frame` is in memory
unfoldable pub padding : List ℕ
padding = replicate (0x1000 - 156) 0

unfoldable pub front : ℕ → List ℕ
front n = concat (file_header (headers_at n) ∷ program_header (abbreviations_at n) ∷ build_id n ∷ padding ∷ [])

unfoldable pub section_headers : ℕ → List ℕ
section_headers n = flat_map section_header (sections n)

-- the whole file; the code is zero bytes
unfoldable pub made : ℕ → List ℕ
made n = concat (front n ∷ replicate (64 * n) 0 ∷ frames n ∷ abbreviations ∷ units n ∷ line_tables n ∷ section_names ∷ section_headers n ∷ [])
