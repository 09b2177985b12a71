-- Small core files, put together field by field: the file header, the program headers, and the bytes of the segments in their order
-- (System V gABI; struct elf_prstatus and NT_FILE of Linux x86-64).
use Rattle.std.proofs.Common.{ℕ, ◌+◌, ◌*◌, List, [], ◌∷◌, ◌++◌, length, codes}
use Rattle.std.specs.Prelude.{⊤, replicate}
use Rattle.std.specs.List.{flat_map}
use Rattle.sym_edges.proofs.Hex.{bytes, hex, little}

-- A segment: p_type, p_flags, p_vaddr, p_memsz and its bytes.
pub record Piece : Type 0 where
  pub kind : ℕ
  pub flags : ℕ
  pub address : ℕ
  pub memory : ℕ
  pub content : List ℕ

abbrev pub load : ℕ → ℕ → ℕ → List ℕ → Piece
load flags address memory content = record { kind = 1; flags = flags; address = address; memory = memory; content = content }

abbrev pub noted : List ℕ → Piece
noted content = record { kind = 4; flags = 0; address = 0; memory = 0; content = content }

-- A file header with these e_type and e_phnum.
unfoldable pub head : ℕ → ℕ → List ℕ
unfolding little hex bytes
head kind count =
    hex "7f454c46 02010100 00000000 00000000" ++ little 2 kind ++ little 2 62 ++ little 4 1 ++ little 8 0 ++ little 8 64
    ++ little 8 0 ++ little 4 0 ++ little 2 64 ++ little 2 56 ++ little 2 count ++ little 2 0 ++ little 2 0 ++ little 2 0

-- A program header, given the place of the segment's bytes: p_type, p_flags, p_offset, p_vaddr,
-- p_paddr, p_filesz, p_memsz and p_align.
unfoldable pub program : Piece → ℕ → List ℕ
unfolding little
program s place =
    little 4 s.kind ++ little 4 s.flags ++ little 8 place ++ little 8 s.address ++ little 8 0 ++ little 8 (length s.content)
    ++ little 8 s.memory ++ little 8 4096

unfoldable pub table : List Piece → ℕ → List ℕ
table [] place = []
table (s ∷ pieces) place = program s place ++ table pieces (place + length s.content)

unfoldable pub contents : List Piece → List ℕ
contents pieces = flat_map (λ s. s.content) pieces

-- A core file with these segments.
unfoldable pub core_of : List Piece → List ℕ
core_of pieces = head 4 (length pieces) ++ table pieces (64 + 56 * length pieces) ++ contents pieces

-- A note of the owner CORE, whose descriptor is a multiple of four bytes.
unfoldable pub core_note : ℕ → List ℕ → List ℕ
unfolding little
core_note kind descriptor = little 4 5 ++ little 4 (length descriptor) ++ little 4 kind ++ codes "CORE\0" ++ replicate 3 0 ++ descriptor

-- A state: pr_cursig, pr_pid, and the 27 registers of pr_reg.
unfoldable pub state : ℕ → ℕ → List ℕ → List ℕ
unfolding little
state signal number registers =
    replicate 12 0 ++ little 2 signal ++ replicate 18 0 ++ little 4 number ++ replicate 76 0 ++ flat_map (little 8) registers ++ replicate 8 0

-- The registers r15 to rdi are 1 to 15, orig_rax is 99, cs and eflags are 51 and 514, and all after
-- rsp are 0.
abbrev pub registers : ℕ → ℕ → List ℕ
registers rip rsp =
    1 ∷ 2 ∷ 3 ∷ 4 ∷ 5 ∷ 6 ∷ 7 ∷ 8 ∷ 9 ∷ 10 ∷ 11 ∷ 12 ∷ 13 ∷ 14 ∷ 15 ∷ 99 ∷ rip ∷ 51 ∷ 514 ∷ rsp ∷ 0 ∷ 0 ∷ 0 ∷ 0 ∷ 0 ∷ 0 ∷ 0 ∷ []

-- A mapping: its start, its end, and its place in the file in pages.
unfoldable pub mapping : ℕ → ℕ → ℕ → List ℕ
unfolding little
mapping start end offset = little 8 start ++ little 8 end ++ little 8 offset

-- A note of mapped files, with this many mappings.
unfoldable pub files : ℕ → List ℕ → List ℕ → List ℕ
unfolding little
files count mappings texts = core_note 0x46494c45 (little 8 count ++ little 8 4096 ++ mappings ++ texts)

-- A note with the state of a thread of number 1 and signal 11.
unfoldable pub thread_note : List ℕ
thread_note = core_note 1 (state 11 1 (registers 0x555555551005 0x7000))

-- A loaded file: one loaded segment that is code, and a note with a build id after the headers.
unfoldable pub image : List ℕ
unfolding little hex bytes
image =
    head 3 2
    ++ (little 4 1 ++ little 4 1 ++ little 8 0 ++ little 8 0 ++ little 8 0 ++ little 8 0x3010 ++ little 8 0x3010 ++ little 8 4096)
    ++ (little 4 4 ++ little 4 4 ++ little 8 176 ++ little 8 176 ++ little 8 0 ++ little 8 32 ++ little 8 32 ++ little 8 4)
    ++ (little 4 4 ++ little 4 16 ++ little 4 3 ++ codes "GNU\0" ++ hex "000102030405060708090a0b0c0d0e0f")

unfoldable pub cores_build : ⊤
unfolding bytes hex little head program table contents core_of core_note state mapping files thread_note image
cores_build = tt
