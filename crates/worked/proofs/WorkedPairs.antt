-- Worked examples: a stripped ELF file with its separate debug file.
use Rattle.std.proofs.Common.{◌≡◌, ℕ, List, [], ◌∷◌, ◌++◌, replicate, codes, None, Some, if◌then◌else◌, refl}
use Prim.Native.String.{String}
use Rattle.std.specs.Str.{bytes_eq}
use Rattle.sym_edges.specs.Outside.{Files}
use Rattle.sym_edges.proofs.Hex.{little}
use Rattle.worked.proofs.Elf.{Section, Symbol, null, plain, linked, progbits, code, of_kind, function, loaded, file_of, entries, strings, id_note, hex}
use Rattle.worked.proofs.Plain.{plain_verdict}
use Rattle.worked.proofs.Small.{Told, told, id, small, gives, gives_and_omits, refused, files}

-- The ELF file `d/a.out`, and a debug file at a path.
unfoldable at_paths : List ℕ → String → List ℕ → Files
at_paths elf path debug asked =
    if bytes_eq asked (codes "d/a.out") then Some elf else if bytes_eq asked (codes path) then Some debug else None

-- The answers to arguments with both files, and with the ELF file alone.
unfoldable pair : List ℕ → List ℕ → Told
pair elf debug = told (plain_verdict (codes "dump" ∷ codes "d/a.out" ∷ codes "--debug" ∷ codes "g" ∷ []) (at_paths elf "g" debug))

unfoldable below : String → String → List ℕ → List ℕ → Told
below root path elf debug = told (plain_verdict (codes "dump" ∷ codes "d/a.out" ∷ codes "--debug-root" ∷ codes root ∷ []) (at_paths elf path debug))

abbrev unread : Told
unread = Some (3, "", "cannot read input\n")

-- A note with this build id.
abbrev with_id : String → Section
with_id bytes = plain ".note.gnu.build-id" 7 (id_note (hex bytes))

-- `.eh_frame` at 2000 of a function from 1000 to 1020 that pushes rbp, and `.debug_frame` of a
-- function from 1000 on that does not.
abbrev push_rbp : List ℕ
push_rbp =
    hex "14000000 00000000 01 7a5200 01 78 10 01 1b 0c0708 9001 0000 1c000000 1c000000 e0efffff 20000000 00 41 0e10 8602 43 0d06 4a 0c0708 000000 00000000"

abbrev eh_frame : List ℕ → Section
eh_frame bytes = record { name = codes ".eh_frame"; kind = 1; flags = 0; address = 0x2000; link = 0; content = bytes }

abbrev debug_frame : ℕ → Section
debug_frame size =
    progbits ".debug_frame" (hex "14000000 ffffffff 01 00 01 78 10 0c0708 9001 000000000000 14000000 00000000 0010000000000000" ++ little 8 size)

-- 32 bytes of code.
abbrev body : Section
body = code 0x1000 (replicate 32 0x90)

-- A file with a build id, code and further sections.
unfoldable built : Section → Section → List Section → List ℕ
built build text back = file_of (loaded 0 ∷ []) (null ∷ build ∷ text ∷ back)

-- A binary without symbols and debugging information.
unfoldable stripped : List Section → List ℕ
stripped back = built id body back

-- Code and frames without bytes in the file, as a debug file has them.
abbrev no_body : Section
no_body = of_kind 8 6 body

abbrev no_frames : Section
no_frames = of_kind 8 2 (eh_frame push_rbp)

abbrev symbols : List Symbol → List Section
symbols ss = linked ".symtab" 2 4 (entries ss) ∷ plain ".strtab" 3 (strings ss) ∷ []

-- A debug file with these symbols and further sections.
unfoldable debug_of : List Symbol → List Section → List ℕ
debug_of ss back = built id no_body (symbols ss ++ (no_frames ∷ back))

abbrev f : Symbol
f = function "f" 0x1008

-- The symbols come from the debug file, and the frames from the binary.
both_files : pair (stripped (eh_frame push_rbp ∷ [])) (debug_of (f ∷ []) []) ≡ gives "PUBLIC 1008 0 f\nSTACK CFI INIT 1000 20 .cfa: $rsp 8 + .ra: .cfa -8 + ^\nSTACK CFI 1001 .cfa: $rsp 16 + $rbp: .cfa -16 + ^\nSTACK CFI 1004 .cfa: $rbp 16 +\nSTACK CFI 100e .cfa: $rsp 8 +\n"
unfolding files at_paths pair below built stripped debug_of
both_files = refl

-- `.eh_frame` of the debug file and `.debug_frame` of the binary are not read.
other_frames : pair (stripped (debug_frame 0x20 ∷ [])) (built id no_body (eh_frame push_rbp ∷ [])) ≡ gives ""
unfolding files at_paths pair below built stripped debug_of
other_frames = refl

-- `.debug_frame` of the debug file is read, after the binary's `.eh_frame`.
debug_frames : pair (stripped (eh_frame push_rbp ∷ debug_frame 0x10 ∷ [])) (debug_of [] (debug_frame 0x20 ∷ [])) ≡ gives_and_omits "STACK CFI INIT 1000 20 .cfa: $rsp 8 + .ra: .cfa -8 + ^\nSTACK CFI 1001 .cfa: $rsp 16 + $rbp: .cfa -16 + ^\nSTACK CFI 1004 .cfa: $rbp 16 +\nSTACK CFI 100e .cfa: $rsp 8 +\n" "omitted debug_frame 18 overlap\n"
unfolding files at_paths pair below built stripped debug_of
debug_frames = refl

debug_frames_alone : pair (stripped []) (debug_of [] (debug_frame 0x20 ∷ [])) ≡ gives "STACK CFI INIT 1000 20 .cfa: $rsp 8 + .ra: .cfa -8 + ^\n"
unfolding files at_paths pair below built stripped debug_of
debug_frames_alone = refl

-- If the debug file has no function symbol, those of the binary count. Otherwise only its own
-- count.
no_symbols : pair (built id body (symbols (function "g" 0x1004 ∷ []))) (debug_of [] []) ≡ gives "PUBLIC 1004 0 g\n"
unfolding files at_paths pair below built stripped debug_of
no_symbols = refl

its_symbols_alone : pair (built id body (symbols (function "g" 0x1004 ∷ []))) (debug_of (f ∷ []) []) ≡ gives "PUBLIC 1008 0 f\n"
unfolding files at_paths pair below built stripped debug_of
its_symbols_alone = refl

-- A symbol of the debug file counts if it is in the binary's code, even if that is less than its
-- own code.
outside_of_the_code : pair (built id (code 0x1000 (replicate 8 0x90)) []) (debug_of (f ∷ function "e" 0x1007 ∷ []) []) ≡ gives "PUBLIC 1007 0 e\n"
unfolding files at_paths pair below built stripped debug_of
outside_of_the_code = refl

-- A file with itself as its debug file.
small_twice : pair small small ≡ gives "PUBLIC 1000 0 main\n"
unfolding files at_paths pair below built stripped debug_of
small_twice = refl

-- A build id with another last byte.
abbrev other_id : Section
other_id = with_id "000102030405060708090a0b0c0d0e0f10111214"

-- A debug file of another build.
another_build : pair (stripped []) (built other_id no_body []) ≡ refused "refused pair build-id\n"
unfolding files at_paths pair below built stripped debug_of
another_build = refl

-- A build id that is a prefix of the other.
an_id_of_16_bytes : pair (stripped []) (built (with_id "000102030405060708090a0b0c0d0e0f") no_body []) ≡ refused "refused pair build-id\n"
unfolding files at_paths pair below built stripped debug_of
an_id_of_16_bytes = refl

-- Build ids of one byte.
ids_of_one_byte : pair (built (with_id "ab") body []) (built (with_id "ab") no_body []) ≡ Some (0, "MODULE Linux x86_64 000000AB0000000000000000000000000 a.out\nINFO CODE_ID AB\n", "")
unfolding files at_paths pair below built stripped debug_of
ids_of_one_byte = refl

-- A file without a build id.
no_id_in_the_binary : pair (file_of (loaded 0 ∷ []) (null ∷ body ∷ [])) (debug_of [] []) ≡ refused "refused pair no-build-id\n"
unfolding files at_paths pair below built stripped debug_of
no_id_in_the_binary = refl

no_id_in_the_debug_file : pair (stripped []) (file_of (loaded 0 ∷ []) (null ∷ body ∷ [])) ≡ refused "refused pair no-build-id\n"
unfolding files at_paths pair below built stripped debug_of
no_id_in_the_debug_file = refl

-- A debug file that is no ELF file.
an_empty_debug_file : pair small [] ≡ refused "refused debug not-elf\n"
unfolding files at_paths pair below built stripped debug_of
an_empty_debug_file = refl

-- A file whose section 2 is compressed, a file without a build id, frame entries that are refused,
-- and units that are refused.
abbrev compressed : Section
compressed = of_kind 1 0x800 (progbits ".debug_str" (0 ∷ []))

unfoldable no_id : List Section → List ℕ
no_id back = file_of (loaded 0 ∷ []) (null ∷ body ∷ back)

abbrev wide : Section
wide = eh_frame (hex "ffffffff")

abbrev cut : Section
cut = progbits ".debug_frame" (0 ∷ [])

abbrev cut_unit : Section
cut_unit = progbits ".debug_info" (0 ∷ [])

-- The first fault counts: each of these files also has the next fault.
the_binary_is_not_there : told (plain_verdict (codes "dump" ∷ codes "d/b.out" ∷ codes "--debug" ∷ codes "g" ∷ []) (at_paths small "g" [])) ≡ unread
unfolding files at_paths pair below built stripped debug_of no_id
the_binary_is_not_there = refl

the_image_of_the_binary : pair (no_id (compressed ∷ [])) [] ≡ refused "refused elf compressed 2\n"
unfolding files at_paths pair below built stripped debug_of no_id
the_image_of_the_binary = refl

the_image_before_its_id : below "r" "g" (no_id (compressed ∷ [])) [] ≡ refused "refused elf compressed 2\n"
unfolding files at_paths pair below built stripped debug_of no_id
the_image_before_its_id = refl

no_id_before_the_debug_file : below "r" "g" (no_id []) [] ≡ refused "refused pair no-build-id\n"
unfolding files at_paths pair below built stripped debug_of no_id
no_id_before_the_debug_file = refl

a_short_id_before_the_debug_file : below "r" "g" (built (with_id "ab") body []) [] ≡ refused "refused pair short-id\n"
unfolding files at_paths pair below built stripped debug_of no_id
a_short_id_before_the_debug_file = refl

the_debug_file_is_not_there : told (plain_verdict (codes "dump" ∷ codes "d/a.out" ∷ codes "--debug" ∷ codes "h" ∷ []) (at_paths (no_id []) "g" [])) ≡ unread
unfolding files at_paths pair below built stripped debug_of no_id
the_debug_file_is_not_there = refl

the_image_of_the_debug_file : pair (no_id []) (no_id (compressed ∷ [])) ≡ refused "refused debug compressed 2\n"
unfolding files at_paths pair below built stripped debug_of no_id
the_image_of_the_debug_file = refl

no_id_before_units : pair (no_id []) (built other_id no_body (cut_unit ∷ [])) ≡ refused "refused pair no-build-id\n"
unfolding files at_paths pair below built stripped debug_of no_id
no_id_before_units = refl

ids_before_units : pair (stripped (wide ∷ [])) (built other_id no_body (cut_unit ∷ [])) ≡ refused "refused pair build-id\n"
unfolding files at_paths pair below built stripped debug_of no_id
ids_before_units = refl

units_before_frames : pair (stripped (wide ∷ [])) (debug_of [] (cut_unit ∷ cut ∷ [])) ≡ refused "refused dwarf ends debug_info 0\n"
unfolding files at_paths pair below built stripped debug_of no_id
units_before_frames = refl

frames_of_the_binary_first : pair (stripped (wide ∷ [])) (debug_of [] (cut ∷ [])) ≡ refused "refused frame format64 eh_frame 0\n"
unfolding files at_paths pair below built stripped debug_of no_id
frames_of_the_binary_first = refl

frames_of_the_debug_file : pair (stripped (eh_frame push_rbp ∷ [])) (debug_of [] (cut ∷ [])) ≡ refused "refused frame length debug_frame 0\n"
unfolding files at_paths pair below built stripped debug_of no_id
frames_of_the_debug_file = refl

-- Units and `.debug_frame` of the binary, and `.eh_frame` of the debug file, are not read.
what_is_not_read : pair (stripped (cut_unit ∷ cut ∷ [])) (built id no_body (wide ∷ [])) ≡ gives ""
unfolding files at_paths pair below built stripped debug_of no_id
what_is_not_read = refl

-- Below a root directory: its path is put in front unchanged.
below_a_root : below "/d" "/d/.build-id/00/0102030405060708090a0b0c0d0e0f10111213.debug" (stripped []) (debug_of (f ∷ []) []) ≡ gives "PUBLIC 1008 0 f\n"
unfolding files at_paths pair below built stripped debug_of no_id
below_a_root = refl

a_relative_root : below "r/s" "r/s/.build-id/00/0102030405060708090a0b0c0d0e0f10111213.debug" (stripped []) (debug_of (f ∷ []) []) ≡ gives "PUBLIC 1008 0 f\n"
unfolding files at_paths pair below built stripped debug_of no_id
a_relative_root = refl

a_slash_at_its_end : below "/d/" "/d//.build-id/00/0102030405060708090a0b0c0d0e0f10111213.debug" (stripped []) (debug_of (f ∷ []) []) ≡ gives "PUBLIC 1008 0 f\n"
unfolding files at_paths pair below built stripped debug_of no_id
a_slash_at_its_end = refl

an_id_of_two_bytes : below "/d" "/d/.build-id/ab/0c.debug" (built (with_id "ab0c") body []) (built (with_id "ab0c") no_body []) ≡ Some (0, "MODULE Linux x86_64 00000CAB0000000000000000000000000 a.out\nINFO CODE_ID AB0C\n", "")
unfolding files at_paths pair below built stripped debug_of no_id
an_id_of_two_bytes = refl

nothing_there : below "/d" "/d/.build-id/00/0102030405060708090A0B0C0D0E0F10111213.debug" (stripped []) (debug_of (f ∷ []) []) ≡ unread
unfolding files at_paths pair below built stripped debug_of no_id
nothing_there = refl

-- Arguments that are invalid.
abbrev usage : Told
usage = Some (2, "", "usage: dumpsyms dump ELF, check SYM, lookup SYM ADDR, frame SYM ADDR STATE, sample N, walk SYM STATE, judge ELF SYM, names SYM, dump --full ELF, stacks CORE STORE\n")

with_workers : told (plain_verdict (codes "dump" ∷ codes "d/a.out" ∷ codes "--debug" ∷ codes "g" ∷ codes "--workers" ∷ codes "2" ∷ []) (at_paths small "g" small)) ≡ usage
unfolding files at_paths pair below built stripped debug_of no_id
with_workers = refl

without_a_debug_file : told (plain_verdict (codes "dump" ∷ codes "d/a.out" ∷ codes "--debug" ∷ []) (at_paths small "g" small)) ≡ usage
unfolding files at_paths pair below built stripped debug_of no_id
without_a_debug_file = refl

without_a_root : told (plain_verdict (codes "dump" ∷ codes "d/a.out" ∷ codes "--debug-root" ∷ []) (at_paths small "g" small)) ≡ usage
unfolding files at_paths pair below built stripped debug_of no_id
without_a_root = refl

another_option : told (plain_verdict (codes "dump" ∷ codes "d/a.out" ∷ codes "--debugs" ∷ codes "g" ∷ []) (at_paths small "g" small)) ≡ usage
unfolding files at_paths pair below built stripped debug_of no_id
another_option = refl

a_check : told (plain_verdict (codes "check" ∷ codes "d/a.out" ∷ codes "--debug" ∷ codes "g" ∷ []) (at_paths small "g" small)) ≡ usage
unfolding files at_paths pair below built stripped debug_of no_id
a_check = refl
