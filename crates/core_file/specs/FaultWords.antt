-- The words printed for the faults of a core file.
use Rattle.std.specs.Prelude.{ℕ, List, ◌++◌, Option, Some, None, codes, decimal}
use Rattle.core_file.specs.declared.fault.CoreFault.{CoreFault}
use Rattle.core_file.specs.declared.fault.CoreFault.TheVariants.{NotElf, Class, Order, Machine, Kind, ProgramTable, BadSegment, BadNote, NoThread}

-- the word of a fault, for some with the index of a segment
abbrev pub fault_word : CoreFault → List ℕ
fault_word NotElf = codes "not-elf"
fault_word Class = codes "class"
fault_word Order = codes "order"
fault_word Machine = codes "machine"
fault_word Kind = codes "kind"
fault_word ProgramTable = codes "program-table"
fault_word (BadSegment index) = codes "segment " ++ decimal index
fault_word (BadNote index) = codes "note " ++ decimal index
fault_word NoThread = codes "no-thread"

-- a word, and the number after it if there is one
abbrev pub joined_word : List ℕ → Option ℕ → List ℕ
joined_word word None = word
joined_word word (Some index) = word ++ decimal index
