-- What the code stores of a file while it reads. No public contract cites these definitions.
use Rattle.std.specs.Prelude.{◌≡◌, ℕ, ◌^◌, ◌<◌, true, List, None, length}
use Rattle.std.specs.declared.cmp.Ordering.{Ordering}
use Rattle.std.specs.Ordering.{ordering_then, nat_cmp}
use Rattle.std.specs.BTreeSet.{BTreeSet, contains}
use Rattle.elf_sections.specs.ElfNumbers.{sht_note}
use Rattle.elf_sections.specs.Notes.{first_id, notes_of}
use Rattle.elf_sections.specs.FileHeader.{header_of}
use Rattle.elf_sections.specs.Sections.{sections, names}
use Rattle.elf_sections.specs.declared.header.FileHeader.{FileHeader}
use Rattle.elf_sections.specs.declared.section.SectionHeader.{SectionHeader}

-- the file header, the section headers and the table of names, as they were read
pub record AreTables (file : List ℕ) (header : FileHeader) (list : List SectionHeader) (table : List ℕ) : Type 0 where
  pub header_is : header ≡ header_of file
  pub list_is : list ≡ sections file
  pub table_is : table ≡ names file
  pub few : length list < 2 ^ 16

-- the order of places in a file with a size: by offset, then by size
abbrev pub run_cmp : ℕ × ℕ → ℕ × ℕ → Ordering
run_cmp x y = ordering_then (nat_cmp x.0 y.0) (nat_cmp x.1 y.1)

-- a section of notes whose offset and size are in the set has no build id
abbrev pub GaveNone : List ℕ → BTreeSet (ℕ × ℕ) → Type 0
GaveNone file runs = (s : SectionHeader) → s.kind ≡ sht_note → contains run_cmp runs (s.offset, s.size) ≡ true → first_id (notes_of file s) ≡ None
