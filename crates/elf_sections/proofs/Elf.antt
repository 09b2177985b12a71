-- Small ELF-64 files for the worked examples, made field by field: the file header, one program
-- header, the section headers, and the bytes of the sections in their order. The last section has
-- the names of all.
use Rattle.std.proofs.Common.{ℕ, zero, suc, ◌+◌, ◌*◌, ◌-◌, ◌/◌, ◌%◌, List, [], ◌∷◌, ◌++◌, length, codes}
use Rattle.std.specs.Prelude.{⊤}
use Rattle.std.specs.List.{flat_map}
use Rattle.sym_edges.proofs.Hex.{bytes}

-- A number in a given count of bytes, the lowest first.
unfoldable pub le : ℕ → ℕ → List ℕ
le zero n = []
le (suc width) n = n % 256 ∷ le width (n / 256)

-- A section: sh_type, sh_flags, sh_addr and sh_link, its name and its bytes.
pub record Section : Type 0 where
  pub name : List ℕ
  pub kind : ℕ
  pub flags : ℕ
  pub address : ℕ
  pub link : ℕ
  pub content : List ℕ

-- A symbol: its st_info, st_shndx and st_value, and its name.
pub record Symbol : Type 0 where
  pub name : List ℕ
  pub info : ℕ
  pub section : ℕ
  pub address : ℕ

abbrev pub plain : List ℕ → ℕ → List ℕ → Section
plain name kind content = record { name = name; kind = kind; flags = 0; address = 0; link = 0; content = content }

-- A section `.text` with the flags ALLOC and EXECINSTR.
abbrev pub code_at : ℕ → List ℕ → Section
code_at address content = record { name = codes ".text"; kind = 1; flags = 6; address = address; link = 0; content = content }

-- A global function, defined in section 2.
abbrev pub function : List ℕ → ℕ → Symbol
function name address = record { name = name; info = 0x12; section = 2; address = address }

-- A section header, given the places of the name and of the bytes.
unfoldable pub header : Section → ℕ → ℕ → List ℕ
header s name place =
    le 4 name ++ le 4 s.kind ++ le 8 s.flags ++ le 8 s.address ++ le 8 place ++ le 8 (length s.content) ++ le 4 s.link ++ le 4 0
    ++ le 8 1 ++ le 8 0

unfoldable pub headers : List Section → ℕ → ℕ → List ℕ
headers [] name place = []
headers (s ∷ ss) name place = header s name place ++ headers ss (name + length s.name + 1) (place + length s.content)

unfoldable pub names : List Section → List ℕ
names ss = flat_map (λ s. s.name ++ 0 ∷ []) ss

unfoldable pub contents : List Section → List ℕ
contents ss = flat_map (λ s. s.content) ss

-- A shared object with one loaded segment at a base: with the given sections only, and with the
-- table of names after them.
unfoldable pub file_of_all : ℕ → List Section → List ℕ
file_of_all base ss =
    (127 ∷ codes "ELF") ++ bytes (codes "02 01 01 00 00000000 00000000") ++ le 2 3 ++ le 2 62 ++ le 4 1 ++ le 8 0 ++ le 8 64
    ++ le 8 120 ++ le 4 0 ++ le 2 64 ++ le 2 56 ++ le 2 1 ++ le 2 64 ++ le 2 (length ss) ++ le 2 (length ss - 1)
    ++ le 4 1 ++ le 4 5 ++ le 8 0 ++ le 8 base ++ le 8 base ++ le 8 0 ++ le 8 0 ++ le 8 4096
    ++ headers ss 0 (120 + 64 * length ss) ++ contents ss

unfoldable pub file_of : ℕ → List Section → List ℕ
file_of base ss = file_of_all base (ss ++ plain (codes ".shstrtab") 3 (names ss ++ codes ".shstrtab" ++ 0 ∷ []) ∷ [])

unfoldable pub entries : List Symbol → ℕ → List ℕ
entries [] name = []
entries (s ∷ ss) name = le 4 name ++ s.info ∷ 0 ∷ le 2 s.section ++ le 8 s.address ++ le 8 4 ++ entries ss (name + length s.name + 1)

unfoldable pub strings : List Symbol → List ℕ
strings ss = 0 ∷ flat_map (λ s. s.name ++ 0 ∷ []) ss

-- A symbol table that links to section 4, and its string table.
abbrev pub symbol_table : ℕ → List Symbol → Section
symbol_table kind ss = record { name = codes ".symtab"; kind = kind; flags = 0; address = 0; link = 4; content = entries ss 1 }

-- A GNU note with a build id.
unfoldable pub note : List ℕ → List ℕ
note id = le 4 4 ++ le 4 (length id) ++ le 4 3 ++ codes "GNU\0" ++ id

unfoldable pub elf_builds : ⊤
unfolding le header headers names contents file_of_all file_of entries strings note
elf_builds = tt
