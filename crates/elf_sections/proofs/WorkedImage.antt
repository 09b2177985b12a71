-- Worked examples: whole files, and what is read of them.
use Rattle.std.proofs.Common.{◌≡◌, ◌+◌, ℕ, List, [], ◌∷◌, map, codes, Some, None, Ok, refl}
use Rattle.std.specs.Prelude.{slice_set}
use Rattle.elf_sections.specs.Symbols.{SymbolParts, symbols}
use Rattle.elf_sections.specs.Programs.{base, code}
use Rattle.elf_sections.specs.SupLinks.{Missing}
use Rattle.elf_sections.specs.Image.{SectionPart, image, identity_of, part_named}
use Rattle.elf_sections.proofs.Elf.{Symbol}
use Rattle.sym_edges.proofs.Hex.{bytes}
use Rattle.elf_sections.proofs.Computing.{elf_sections_computes}
use Rattle.elf_sections.proofs.Elf.{Section, plain, code_at, function, file_of, strings, symbol_table, note, elf_builds}

-- A build id of the bytes 00 to 13, four bytes of code at 1000, and the function `main` at its
-- start.
abbrev id20 : List ℕ
id20 = bytes (codes "000102030405060708090a0b0c0d0e0f10111213")

abbrev small : List ℕ
small = file_of 0x400 (plain [] 0 [] ∷ plain (codes ".note.gnu.build-id") 7 (note id20) ∷ code_at 0x1000 (bytes (codes "55905dc3"))
    ∷ symbol_table 2 (function (codes "main") 0x1000 ∷ []) ∷ plain (codes ".strtab") 3 (strings (function (codes "main") 0x1000 ∷ [])) ∷ [])

abbrev absent : SectionPart
absent = record { bytes = []; address = 0 }

small_image : image small ≡ Ok (record {
  info = absent;
  abbrevs = absent;
  line = absent;
  line_str = absent;
  str = absent;
  str_offsets = absent;
  addr = absent;
  ranges = absent;
  rnglists = absent;
  debug_frame = absent;
  eh_frame = absent;
  text = record { bytes = bytes (codes "55905dc3"); address = 0x1000 };
  base = 0x400;
  code = record { start = 0x1000; end = 0x1004 } ∷ [];
  build_id = Some id20;
  identity = bytes (codes "000102030405060708090a0b0c0d0e0f");
  symbols = record { address = 0x1000; name = codes "main" } ∷ [];
  altlink = Missing;
  debug_sup = Missing;
  sup = None;
})
unfolding elf_sections_computes elf_builds
small_image = refl

-- Without a build id, the identity is the exclusive or of the code's groups of 16 bytes.
folded_code : identity_of (bytes (codes "0102030405060708090a0b0c0d0e0f10ff")) None ≡ bytes (codes "fe02030405060708090a0b0c0d0e0f10")
unfolding elf_sections_computes elf_builds
folded_code = refl

-- A build id of fewer than 16 bytes is padded with zeros.
padded_id : identity_of [] (Some (bytes (codes "0102"))) ≡ bytes (codes "01020000000000000000000000000000")
unfolding elf_sections_computes elf_builds
padded_id = refl

-- A section of code at an address, with these bytes.
abbrev more_code : ℕ → List ℕ → Section
more_code address content = record { name = codes ".more"; kind = 1; flags = 6; address = address; link = 0; content = content }

-- Three sections of code: [3000, 3004), [1000, 1004) and [1004, 1006).
abbrev in_three : List Symbol → List ℕ
in_three found = file_of 0x400 (plain [] 0 [] ∷ more_code 0x3000 (bytes (codes "55905dc3")) ∷ code_at 0x1000 (bytes (codes "55905dc3"))
    ∷ symbol_table 2 found ∷ plain (codes ".strtab") 3 (strings found) ∷ more_code 0x1004 (bytes (codes "90c3")) ∷ [])

abbrev addresses : List SymbolParts → List ℕ
addresses found = map (λ s. s.address) found

-- Functions count in each section of code, from its first byte to its last.
functions_in_code : addresses (symbols (in_three (function (codes "f") 0xfff ∷ function (codes "f") 0x1000 ∷ function (codes "f") 0x1003 ∷ function (codes "f") 0x1004 ∷ function (codes "f") 0x1005 ∷ function (codes "f") 0x1006 ∷ function (codes "f") 0x2000 ∷ function (codes "f") 0x3000 ∷ function (codes "f") 0x3003 ∷ function (codes "f") 0x3004 ∷ []))) ≡ 0x1000 ∷ 0x1003 ∷ 0x1004 ∷ 0x1005 ∷ 0x3000 ∷ 0x3003 ∷ []
unfolding elf_sections_computes elf_builds
functions_in_code = refl

-- The ranges of code are in the order of the sections.
code_by_sections : code (in_three []) ≡ record { start = 0x3000; end = 0x3004 } ∷ record { start = 0x1000; end = 0x1004 } ∷ record { start = 0x1004; end = 0x1006 } ∷ []
unfolding elf_sections_computes elf_builds
code_by_sections = refl

-- A symbol at 1000, with this st_info and this section index.
abbrev typed : List ℕ → ℕ → ℕ → Symbol
typed name info section = record { name = name; info = info; section = section; address = 0x1000 }

-- Functions and those found by a call count, of each binding, if they are defined and have a name.
which_symbols : map (λ s. s.name) (symbols (in_three (typed (codes "object") 0x11 2 ∷ typed (codes "local") 2 2 ∷ typed (codes "undefined") 0x12 0 ∷ typed (codes "indirect") 0x1a 2 ∷ typed [] 0x12 2 ∷ []))) ≡ codes "local" ∷ codes "indirect" ∷ []
unfolding elf_sections_computes elf_builds
which_symbols = refl

-- A few leading spaces of a name are held.
spaced_names : map (λ s. s.name) (symbols (in_three (function (codes " f") 0x1000 ∷ function (codes "  g") 0x1000 ∷ []))) ≡ codes " f" ∷ codes "  g" ∷ []
unfolding elf_sections_computes elf_builds
spaced_names = refl

-- A file with a table of symbols of the given type and one of dynamic symbols.
abbrev two_tables : ℕ → List ℕ
two_tables kind = file_of 0 (plain [] 0 [] ∷ code_at 0x1000 (bytes (codes "55905dc3")) ∷ symbol_table 11 (function (codes "f") 0x1001 ∷ [])
    ∷ symbol_table kind [] ∷ plain (codes ".strtab") 3 (strings (function (codes "f") 0 ∷ [])) ∷ [])

-- The symbol table counts even if it is empty.
symbol_table_first : addresses (symbols (two_tables 2)) ≡ []
unfolding elf_sections_computes elf_builds
symbol_table_first = refl

-- Without a symbol table the dynamic symbols count.
dynamic_symbols : addresses (symbols (two_tables 1)) ≡ 0x1001 ∷ []
unfolding elf_sections_computes elf_builds
dynamic_symbols = refl

-- Without program headers the base is 0.
no_programs : base (slice_set small 56 0) ≡ 0
unfolding elf_sections_computes elf_builds
no_programs = refl

-- Without a loaded segment the base is 0.
not_loaded : base (slice_set small (64 + 0) 2) ≡ 0
unfolding elf_sections_computes elf_builds
not_loaded = refl

-- Two sections of one name, of which the first has no bytes in the file.
abbrev two_texts : List ℕ
two_texts = file_of 0 (plain [] 0 [] ∷ record { name = codes ".text"; kind = 8; flags = 6; address = 0x1000; link = 0; content = bytes (codes "55") }
    ∷ code_at 0x2000 (bytes (codes "90")) ∷ [])

-- The first section of a name counts; if it has the type NOBITS it has no bytes.
first_of_a_name : part_named two_texts (codes ".text") ≡ record { bytes = []; address = 0x1000 }
unfolding elf_sections_computes elf_builds
first_of_a_name = refl
