-- Worked examples of the twelve faults.
use Rattle.std.proofs.Common.{◌≡◌, ◌+◌, ◌-◌, ◌*◌, ℕ, List, [], ◌∷◌, take, codes, Some, None, refl}
use Rattle.std.specs.Prelude.{slice_set}
use Rattle.elf_sections.specs.declared.fault.ElfFault.TheVariants.{NotElf, Class, Order, Machine, Kind, SectionTable, SectionNames, SectionBytes, Compressed, ProgramTable, SymbolTable, NoIdentity}
use Rattle.elf_sections.specs.Image.{image_fault}
use Rattle.sym_edges.proofs.Hex.{bytes}
use Rattle.elf_sections.proofs.Computing.{elf_sections_computes}
use Rattle.elf_sections.proofs.Elf.{plain, code_at, function, file_of, strings, symbol_table, note, elf_builds}

-- A build id of the bytes 00 to 13, four bytes of code at 1000, and the function `main` at its
-- start.
abbrev id20 : List ℕ
id20 = bytes (codes "000102030405060708090a0b0c0d0e0f10111213")

abbrev small : List ℕ
small = file_of 0x400 (plain [] 0 [] ∷ plain (codes ".note.gnu.build-id") 7 (note id20) ∷ code_at 0x1000 (bytes (codes "55905dc3"))
    ∷ symbol_table 2 (function (codes "main") 0x1000 ∷ []) ∷ plain (codes ".strtab") 3 (strings (function (codes "main") 0x1000 ∷ [])) ∷ [])

-- The place of a section header of the small file: 1 is the note, 2 the code, 3 the symbols, 4
-- their names, 5 the names of the sections.
abbrev header_at : ℕ → ℕ
header_at number = 120 + 64 * number

sound : image_fault small ≡ None
unfolding elf_sections_computes elf_builds
sound = refl

empty_file : image_fault [] ≡ Some NotElf
unfolding elf_sections_computes elf_builds
empty_file = refl

a_script : image_fault (codes "#!/bin/sh\n") ≡ Some NotElf
unfolding elf_sections_computes elf_builds
a_script = refl

a_long_text : image_fault (codes "a text of more than sixty-four bytes, which is as long as the header of an ELF file\n") ≡ Some NotElf
unfolding elf_sections_computes elf_builds
a_long_text = refl

-- Less than a whole file header.
cut_header : image_fault (take 63 small) ≡ Some NotElf
unfolding elf_sections_computes elf_builds
cut_header = refl

-- ELFCLASS32.
class_32 : image_fault (slice_set small 4 1) ≡ Some Class
unfolding elf_sections_computes elf_builds
class_32 = refl

-- ELFDATA2MSB.
highest_first : image_fault (slice_set small 5 2) ≡ Some Order
unfolding elf_sections_computes elf_builds
highest_first = refl

-- EM_386.
machine_386 : image_fault (slice_set small 18 3) ≡ Some Machine
unfolding elf_sections_computes elf_builds
machine_386 = refl

-- ET_REL, and ET_CORE.
relocatable : image_fault (slice_set small 16 1) ≡ Some Kind
unfolding elf_sections_computes elf_builds
relocatable = refl

core_file : image_fault (slice_set small 16 4) ≡ Some Kind
unfolding elf_sections_computes elf_builds
core_file = refl

-- ET_EXEC.
executable : image_fault (slice_set small 16 2) ≡ None
unfolding elf_sections_computes elf_builds
executable = refl

-- e_shentsize is not 64.
size_of_headers : image_fault (slice_set small 58 40) ≡ Some SectionTable
unfolding elf_sections_computes elf_builds
size_of_headers = refl

-- e_shoff 0.
no_table : image_fault (slice_set small 40 0) ≡ Some SectionTable
unfolding elf_sections_computes elf_builds
no_table = refl

-- e_shnum is 0, or at least SHN_LORESERVE.
no_sections : image_fault (slice_set small 60 0) ≡ Some SectionTable
unfolding elf_sections_computes elf_builds
no_sections = refl

too_many_sections : image_fault (slice_set (slice_set small 60 0) 61 255) ≡ Some SectionTable
unfolding elf_sections_computes elf_builds
too_many_sections = refl

-- The table ends one byte after the end of the file.
cut_table : image_fault (take (header_at 6 - 1) small) ≡ Some SectionTable
unfolding elf_sections_computes elf_builds
cut_table = refl

-- e_shstrndx is 6, but the sections are 0 to 5.
no_name_table : image_fault (slice_set small 62 6) ≡ Some SectionNames
unfolding elf_sections_computes elf_builds
no_name_table = refl

-- A name that begins after the table.
name_outside : image_fault (slice_set small (header_at 2 + 1) 1) ≡ Some SectionNames
unfolding elf_sections_computes elf_builds
name_outside = refl

-- A table of names without bytes.
names_of_nobits : image_fault (slice_set small (header_at 5 + 4) 8) ≡ Some SectionNames
unfolding elf_sections_computes elf_builds
names_of_nobits = refl

-- A section that is read extends past the end of the file.
symbols_leave : image_fault (slice_set small (header_at 3 + 39) 1) ≡ Some (SectionBytes 3)
unfolding elf_sections_computes elf_builds
symbols_leave = refl

-- SHF_COMPRESSED.
compressed_code : image_fault (slice_set small (header_at 2 + 9) 8) ≡ Some (Compressed 2)
unfolding elf_sections_computes elf_builds
compressed_code = refl

-- A section that extends past the end of the file is reported before one that is compressed.
leaves_before_compressed : image_fault (slice_set (slice_set small (header_at 2 + 9) 8) (header_at 3 + 39) 1) ≡ Some (SectionBytes 3)
unfolding elf_sections_computes elf_builds
leaves_before_compressed = refl

-- A section that is compressed because of its name.
compressed_by_name : image_fault (file_of 0 (plain [] 0 [] ∷ plain (codes ".zdebug_info") 1 [] ∷ [])) ≡ Some (Compressed 1)
unfolding elf_sections_computes elf_builds
compressed_by_name = refl

-- e_phentsize is not 56.
size_of_program_headers : image_fault (slice_set small 54 55) ≡ Some ProgramTable
unfolding elf_sections_computes elf_builds
size_of_program_headers = refl

-- e_phoff is after the end of the file.
programs_leave : image_fault (slice_set small 39 1) ≡ Some ProgramTable
unfolding elf_sections_computes elf_builds
programs_leave = refl

-- sh_link of the symbol table is not the number of a string table.
linked_to_no_strings : image_fault (slice_set small (header_at 3 + 40) 3) ≡ Some SymbolTable
unfolding elf_sections_computes elf_builds
linked_to_no_strings = refl

-- A function without a zero-ended name.
open_name : image_fault (file_of 0 (plain [] 0 [] ∷ plain [] 3 [] ∷ code_at 0x1000 (bytes (codes "c3")) ∷ symbol_table 2 (function (codes "f") 0x1000 ∷ []) ∷ plain (codes ".strtab") 3 (0 ∷ codes "f") ∷ [])) ≡ Some SymbolTable
unfolding elf_sections_computes elf_builds
open_name = refl

-- The file has neither a build id nor code.
nothing_to_name_it : image_fault (file_of 0 (plain [] 0 [] ∷ [])) ≡ Some NoIdentity
unfolding elf_sections_computes elf_builds
nothing_to_name_it = refl
