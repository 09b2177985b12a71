-- Worked examples of modules and memory: files mapped several times, files without headers in
-- memory, names, and segments that overlap.
use Rattle.std.proofs.Common.{◌≡◌, ℕ, true, false, List, [], ◌∷◌, ◌++◌, Some, None, take, map, codes, refl}
use Rattle.sym_edges.proofs.Hex.{little}
use Rattle.core_file.specs.declared.modules.Module.{Module}
use Rattle.core_file.specs.Memory.{byte_at, word_at}
use Rattle.core_file.specs.Code.{is_code}
use Rattle.core_file.specs.Core.{parts_upto, CoreParts}
use Rattle.core_file.proofs.Cores.{Piece, head, load, noted, core_of, thread_note, files, mapping, cores_build}
use Rattle.core_file.proofs.Computing.{core_file_computes}

unfoldable parts_with : ℕ → List ℕ → List Piece → CoreParts
unfolding cores_build core_file_computes
parts_with limit notes pieces = parts_upto limit (core_of (noted (thread_note ++ notes) ∷ pieces))

-- The start, the end, the base and the name of a module.
abbrev placed : Module → List ℕ
placed m = m.start ∷ m.end ∷ m.base ∷ m.name

-- Two mappings of a file without headers in memory are one module, which ends with the second. A
-- third mapping, of another file, begins no module, since it is not of the start of that file.
plain : map placed (parts_with 8 (files 3 (mapping 0x1000 0x2000 0 ++ mapping 0x3000 0x5000 2 ++ mapping 0x6000 0x7000 1) (codes "/l/b.so\0/l/b.so\0/l/c\0\0\0")) []).modules
    ≡ (0x1000 ∷ 0x5000 ∷ 0x1000 ∷ codes "b.so") ∷ []
unfolding cores_build core_file_computes parts_with
plain = refl

-- The name is what follows the last slash, without the words of a deleted file.
deleted : map placed (parts_with 8 (files 2 (mapping 0x1000 0x2000 0 ++ mapping 0x3000 0x4000 0) (codes "/tmp/x y (deleted)\0plain\0\0\0\0")) []).modules
    ≡ (0x1000 ∷ 0x2000 ∷ 0x1000 ∷ codes "x y") ∷ (0x3000 ∷ 0x4000 ∷ 0x3000 ∷ codes "plain") ∷ []
unfolding cores_build core_file_computes parts_with
deleted = refl

-- At most `limit` modules are listed.
limited : map placed (parts_with 1 (files 2 (mapping 0x1000 0x2000 0 ++ mapping 0x3000 0x4000 0) (codes "a\0b\0")) []).modules ≡ (0x1000 ∷ 0x2000 ∷ 0x1000 ∷ codes "a") ∷ []
unfolding cores_build core_file_computes parts_with
limited = refl

-- A program header of a file: p_type, p_flags, p_offset, p_vaddr and p_memsz.
abbrev header : ℕ → ℕ → ℕ → ℕ → ℕ → List ℕ
header kind flags offset address memory =
    little 4 kind ++ little 4 flags ++ little 8 offset ++ little 8 address ++ little 8 0 ++ little 8 memory ++ little 8 memory ++ little 8 4096

-- A file whose first page is mapped at two of its addresses. Its segments begin at its addresses
-- 401000 and 402e00. The second segment may be executed, and has the file's bytes from e00 on.
unfoldable twice : List ℕ
unfolding cores_build
twice = head 3 2 ++ header 1 4 0 0x401000 0x1000 ++ header 1 1 0xe00 0x402e00 0x900

unfoldable mapped_twice : CoreParts
unfolding cores_build core_file_computes parts_with twice
mapped_twice = parts_with 8 (files 2 (mapping 0x10000 0x11000 0 ++ mapping 0x11000 0x13000 0) (codes "/t\0/t\0\0\0")) (load 4 0x10000 0x1000 twice ∷ [])

one_module : map placed mapped_twice.modules ≡ (0x10000 ∷ 0x13000 ∷ 0x10000 ∷ codes "t") ∷ []
unfolding cores_build core_file_computes parts_with mapped_twice twice
one_module = refl

-- The base is where the first loaded segment begins, which may be within a page.
unfoldable within_page : CoreParts
unfolding cores_build core_file_computes parts_with
within_page = parts_with 8 (files 1 (mapping 0x10000 0x11000 0) (codes "/t\0\0")) (load 4 0x10000 0x1000 (head 3 1 ++ header 1 4 0 0x401040 0x1000) ∷ [])

base_within_page : map placed within_page.modules ≡ (0x10000 ∷ 0x12000 ∷ 0x10040 ∷ codes "t") ∷ []
unfolding cores_build core_file_computes parts_with within_page
base_within_page = refl

-- The second segment is code in whole pages.
before_code : is_code mapped_twice.memory mapped_twice.modules 0x10fff ≡ false
unfolding cores_build core_file_computes parts_with mapped_twice twice
before_code = refl

begins_code : is_code mapped_twice.memory mapped_twice.modules 0x11000 ≡ true
unfolding cores_build core_file_computes parts_with mapped_twice twice
begins_code = refl

ends_code : is_code mapped_twice.memory mapped_twice.modules 0x12fff ≡ true
unfolding cores_build core_file_computes parts_with mapped_twice twice
ends_code = refl

behind_code : is_code mapped_twice.memory mapped_twice.modules 0x13000 ≡ false
unfolding cores_build core_file_computes parts_with mapped_twice twice
behind_code = refl

-- Headers that are not wholly in memory do not count.
cut_headers : map placed (parts_with 8 (files 1 (mapping 0x10000 0x11000 0) (codes "/t\0\0")) (load 4 0x10000 0x1000 (take 175 twice) ∷ [])).modules
    ≡ (0x10000 ∷ 0x11000 ∷ 0x10000 ∷ codes "t") ∷ []
unfolding cores_build core_file_computes parts_with twice
cut_headers = refl

-- If two segments give an address a byte, the first one counts. A word may have bytes of both.
unfoldable over : CoreParts
unfolding cores_build core_file_computes parts_with
over = parts_with 8 [] (load 6 0x1004 4 (1 ∷ 2 ∷ 3 ∷ 4 ∷ []) ∷ load 6 0x1000 8 (5 ∷ 6 ∷ 7 ∷ 8 ∷ 9 ∷ 10 ∷ 11 ∷ 12 ∷ []) ∷ [])

first_counts : byte_at over.memory 0x1004 ≡ Some 1
unfolding cores_build core_file_computes parts_with over
first_counts = refl

of_both : word_at over.memory 0x1000 ≡ Some 0x0403020108070605
unfolding cores_build core_file_computes parts_with over
of_both = refl

-- A core that was cut has the bytes that are in the file.
unfoldable cut : CoreParts
unfolding cores_build core_file_computes
cut = parts_upto 8 (take 534 (core_of (noted thread_note ∷ load 6 0x7000 4 (1 ∷ 2 ∷ 3 ∷ 4 ∷ []) ∷ [])))

still_there : byte_at cut.memory 0x7001 ≡ Some 2
unfolding cores_build core_file_computes cut
still_there = refl

cut_off : byte_at cut.memory 0x7002 ≡ None
unfolding cores_build core_file_computes cut
cut_off = refl
