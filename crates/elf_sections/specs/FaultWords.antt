-- The words printed for the faults of an image.
use Rattle.std.specs.Prelude.{ℕ, List, ◌++◌, Option, Some, None, codes, decimal}
use Rattle.elf_sections.specs.declared.fault.ElfFault.{ElfFault}
use Rattle.elf_sections.specs.declared.fault.ElfFault.TheVariants.{NotElf, Class, Order, Machine, Kind, SectionTable, SectionNames, SectionBytes, Compressed, ProgramTable, SymbolTable, NoIdentity, InflatedTooLong, Inflate}

-- the word of a fault; some words are followed by the index of a section
abbrev pub fault_word : ElfFault → List ℕ
fault_word NotElf = codes "not-elf"
fault_word Class = codes "class"
fault_word Order = codes "order"
fault_word Machine = codes "machine"
fault_word Kind = codes "kind"
fault_word SectionTable = codes "section-table"
fault_word SectionNames = codes "section-names"
fault_word (SectionBytes index) = codes "section-bytes " ++ decimal index
fault_word (Compressed index) = codes "compressed " ++ decimal index
fault_word ProgramTable = codes "program-table"
fault_word SymbolTable = codes "symbol-table"
fault_word NoIdentity = codes "no-identity"
fault_word InflatedTooLong = codes "inflated-too-long"
fault_word (Inflate index) = codes "inflate " ++ decimal index

-- a word, and the number after it if there is one
abbrev pub joined_word : List ℕ → Option ℕ → List ℕ
joined_word word None = word
joined_word word (Some index) = word ++ decimal index
