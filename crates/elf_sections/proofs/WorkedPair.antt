-- Worked examples: a stripped binary and its debug file.
use Rattle.std.proofs.Common.{◌≡◌, ℕ, List, [], ◌∷◌, map, codes, refl}
use Rattle.sym_edges.proofs.Hex.{bytes}
use Rattle.elf_sections.specs.Symbols.{SymbolParts}
use Rattle.elf_sections.specs.Image.{SectionPart, ImageParts, parts_of}
use Rattle.elf_sections.specs.Pair.{paired}
use Rattle.elf_sections.proofs.Computing.{elf_sections_computes}
use Rattle.elf_sections.proofs.Elf.{Section, Symbol, plain, code_at, function, file_of, strings, symbol_table, note, elf_builds}

-- A section with bytes in the file, or of type NOBITS.
abbrev loaded : List ℕ → ℕ → ℕ → List ℕ → Section
loaded name kind address content = record { name = name; kind = kind; flags = 2; address = address; link = 0; content = content }

-- A file with code at 1000, frame entries, function symbols, and sections that are asked of only
-- one of the files.
abbrev with_symbols : Section → ℕ → List ℕ → List ℕ → List Symbol → List ℕ
with_symbols code kind units frames found =
    file_of 0x400 (plain [] 0 [] ∷ plain (codes ".note.gnu.build-id") 7 (note (bytes (codes "0102"))) ∷ code ∷ symbol_table 2 found
    ∷ plain (codes ".strtab") 3 (strings found) ∷ loaded (codes ".eh_frame") kind 0x2000 (bytes (codes "00000000"))
    ∷ plain (codes ".debug_info") 1 units ∷ plain (codes ".debug_frame") 1 frames ∷ [])

abbrev binary : List Symbol → List ℕ
binary found = with_symbols (code_at 0x1000 (bytes (codes "55905dc3"))) 1 (bytes (codes "aa")) (bytes (codes "bb")) found

-- A section of code up to 1008 without bytes in the file.
abbrev more_code : Section
more_code = record { name = codes ".text"; kind = 8; flags = 6; address = 0x1000; link = 0; content = bytes (codes "55905dc355905dc3") }

abbrev debug : List Symbol → List ℕ
debug found = with_symbols more_code 8 (bytes (codes "cc")) (bytes (codes "dd")) found

abbrev both : List Symbol → List Symbol → ImageParts
both first second = paired (parts_of (binary first)) (parts_of (debug second))

abbrev part : ℕ → List ℕ → SectionPart
part address content = record { bytes = content; address = address }

-- The loaded sections are the binary's, and all others are the debug file's.
whose_sections : (both [] []).text ∷ (both [] []).eh_frame ∷ (both [] []).info ∷ (both [] []).debug_frame ∷ []
    ≡ part 0x1000 (bytes (codes "55905dc3")) ∷ part 0x2000 (bytes (codes "00000000")) ∷ part 0 (bytes (codes "cc")) ∷ part 0 (bytes (codes "dd")) ∷ []
unfolding elf_sections_computes elf_builds
whose_sections = refl

binary_code : (both [] []).code ≡ record { start = 0x1000; end = 0x1004 } ∷ []
unfolding elf_sections_computes elf_builds
binary_code = refl

abbrev addresses : List SymbolParts → List ℕ
addresses found = map (λ s. s.address) found

-- The debug file's symbols count if it has any. Those outside of the binary's code are dropped.
debug_symbols : addresses (both (function (codes "f") 0x1001 ∷ []) (function (codes "g") 0x1000 ∷ function (codes "h") 0x1003 ∷ function (codes "i") 0x1004 ∷ [])).symbols ≡ 0x1000 ∷ 0x1003 ∷ []
unfolding elf_sections_computes elf_builds
debug_symbols = refl

-- The debug file has symbols, but none in the binary's code: the binary's symbols do not count.
all_outside : addresses (both (function (codes "f") 0x1001 ∷ []) (function (codes "g") 0x1004 ∷ [])).symbols ≡ []
unfolding elf_sections_computes elf_builds
all_outside = refl

-- A symbol outside of the debug file's own code does not count.
no_debug_symbol : addresses (both (function (codes "f") 0x1001 ∷ []) (function (codes "g") 0x1008 ∷ [])).symbols ≡ 0x1001 ∷ []
unfolding elf_sections_computes elf_builds
no_debug_symbol = refl
