-- Small ELF-64 files, put together field by field: the file header, the program headers, the bytes of the sections, and last the
-- section headers.
use Rattle.std.proofs.Common.{ℕ, ◌+◌, ◌*◌, ◌-◌, ◌==◌, ◌||◌, Bool, if◌then◌else◌, List, [], ◌∷◌, ◌++◌, length, take, drop, codes}
use Prim.Native.String.{String}
use Rattle.std.specs.Prelude.{⊤, slice_index}
use Rattle.std.specs.List.{flat_map}
use Rattle.sym_edges.proofs.Hex.{bytes, little}

unfoldable pub hex : String → List ℕ
hex digits = bytes (codes digits)

-- A section: sh_type, sh_flags, sh_addr and sh_link, its name and its bytes.
pub record Section : Type 0 where
  pub name : List ℕ
  pub kind : ℕ
  pub flags : ℕ
  pub address : ℕ
  pub link : ℕ
  pub content : List ℕ

-- A symbol: st_info, st_shndx and st_value, and its name.
pub record Symbol : Type 0 where
  pub name : List ℕ
  pub info : ℕ
  pub section : ℕ
  pub address : ℕ

-- A program header: p_type and p_vaddr.
pub record Program : Type 0 where
  pub kind : ℕ
  pub address : ℕ

abbrev pub program : ℕ → ℕ → Program
program kind address = record { kind = kind; address = address }

-- A segment that is loaded at an address.
abbrev pub loaded : ℕ → Program
loaded address = program 1 address

abbrev pub linked : String → ℕ → ℕ → List ℕ → Section
linked name kind link content = record { name = codes name; kind = kind; flags = 0; address = 0; link = link; content = content }

abbrev pub plain : String → ℕ → List ℕ → Section
plain name kind content = linked name kind 0 content

-- Section 0.
abbrev pub null : Section
null = plain "" 0 []

-- A section of type SHT_PROGBITS that is not loaded.
abbrev pub progbits : String → List ℕ → Section
progbits name content = plain name 1 content

-- Bytes that are loaded and executed.
abbrev pub code_named : String → ℕ → List ℕ → Section
code_named name address content = record { name = codes name; kind = 1; flags = 6; address = address; link = 0; content = content }

abbrev pub code : ℕ → List ℕ → Section
code address content = code_named ".text" address content

-- The same section with another type and other flags.
abbrev pub of_kind : ℕ → ℕ → Section → Section
of_kind kind flags s = record { name = s.name; kind = kind; flags = flags; address = s.address; link = s.link; content = s.content }

abbrev pub symbol : String → ℕ → ℕ → ℕ → Symbol
symbol name info section address = record { name = codes name; info = info; section = section; address = address }

-- A global function that is defined in section 2.
abbrev pub function : String → ℕ → Symbol
function name address = symbol name 0x12 2 address

unfoldable pub has_symbols : Section → Bool
has_symbols s = s.kind == 2 || s.kind == 11

-- A section header, given the places of the name and of the bytes.
unfoldable pub header : Section → ℕ → ℕ → List ℕ
header s name place =
    little 4 name ++ little 4 s.kind ++ little 8 s.flags ++ little 8 s.address ++ little 8 place ++ little 8 (length s.content)
    ++ little 4 s.link ++ (if has_symbols s then little 4 1 ++ little 8 8 ++ little 8 24 else little 4 0 ++ little 8 1 ++ little 8 0)

unfoldable pub headers : List Section → ℕ → ℕ → List ℕ
headers [] name place = []
headers (s ∷ ss) name place = header s name place ++ headers ss (name + length s.name + 1) (place + length s.content)

unfoldable pub names : List Section → List ℕ
names ss = flat_map (λ s. s.name ++ 0 ∷ []) ss

unfoldable pub contents : List Section → List ℕ
contents ss = flat_map (λ s. s.content) ss

unfoldable pub program_headers : List Program → List ℕ
program_headers ps =
    flat_map (λ p. little 4 p.kind ++ little 4 5 ++ little 8 0 ++ little 8 p.address ++ little 8 p.address ++ little 8 0 ++ little 8 0 ++ little 8 4096) ps

-- A shared object whose last section has the names.
unfoldable pub whole_file : List Program → List Section → List ℕ
whole_file ps ss =
    hex "7f 45 4c 46 02 01 01 00 00000000 00000000" ++ little 2 3 ++ little 2 62 ++ little 4 1 ++ little 8 0 ++ little 8 64
    ++ little 8 (64 + 56 * length ps + length (contents ss)) ++ little 4 0 ++ little 2 64 ++ little 2 56 ++ little 2 (length ps)
    ++ little 2 64 ++ little 2 (length ss) ++ little 2 (length ss - 1)
    ++ program_headers ps ++ contents ss ++ headers ss 0 (64 + 56 * length ps)

unfoldable pub file_of : List Program → List Section → List ℕ
file_of ps ss = whole_file ps (ss ++ plain ".shstrtab" 3 (names ss ++ codes ".shstrtab" ++ 0 ∷ []) ∷ [])

-- The entries of a symbol table after the null entry, given the place of the next name.
unfoldable pub entries_from : ℕ → List Symbol → List ℕ
entries_from name [] = []
entries_from name (s ∷ ss) =
    little 4 name ++ s.info ∷ 0 ∷ little 2 s.section ++ little 8 s.address ++ little 8 4 ++ entries_from (name + length s.name + 1) ss

unfoldable pub entries : List Symbol → List ℕ
entries ss = little 8 0 ++ little 8 0 ++ little 8 0 ++ entries_from 1 ss

-- The names of the symbols.
unfoldable pub strings : List Symbol → List ℕ
strings ss = 0 ∷ flat_map (λ s. s.name ++ 0 ∷ []) ss

-- A note of a build id, without padding after it.
unfoldable pub id_note : List ℕ → List ℕ
id_note id = little 4 4 ++ little 4 (length id) ++ little 4 3 ++ hex "474e5500" ++ id

-- Other bytes at a place of the file.
unfoldable pub put : ℕ → List ℕ → List ℕ → List ℕ
put place new file = take place file ++ new ++ drop (place + length new) file

unfoldable pub in_file : ℕ → String → List ℕ → List ℕ
in_file place new file = put place (hex new) file

-- Other bytes at a field of a section's header. The place of the section headers is read from
-- e_shoff.
unfoldable pub in_section : ℕ → ℕ → String → List ℕ → List ℕ
in_section number field new file = put (slice_index file 40 + 256 * slice_index file 41 + 64 * number + field) (hex new) file

-- Changes, one after the other.
unfoldable pub changed : List (List ℕ → List ℕ) → List ℕ → List ℕ
changed [] file = file
changed (change ∷ changes) file = changed changes (change file)

unfoldable pub files_are_built : ⊤
unfolding bytes little hex has_symbols header headers names contents program_headers whole_file file_of entries_from entries strings id_note put in_file in_section changed
files_are_built = tt
