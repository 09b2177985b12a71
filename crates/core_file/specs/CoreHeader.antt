-- The file header of a core file (System V gABI, "ELF Header"), and the faults in it.
use Rattle.std.specs.Prelude.{ℕ, ◌==◌, ◌&&◌, Bool, not, List, Option, None, length, slice_index}
use Rattle.std.specs.Option.{option_or}
use Rattle.sym_edges.specs.Results.{fault_if}
use Rattle.elf_sections.specs.ElfNumbers.{ei_class, elfclass64, ei_data, elfdata2lsb, em_x86_64}
use Rattle.elf_sections.specs.FileHeader.{header_of, type_of, machine_of, is_not_elf}
use Rattle.elf_sections.specs.Programs.{has_programs}
use Rattle.core_file.specs.CoreNumbers.{et_core, pn_xnum}
use Rattle.core_file.specs.declared.fault.CoreFault.{CoreFault}
use Rattle.core_file.specs.declared.fault.CoreFault.TheVariants.{NotElf, Class, Order, Machine, Kind, ProgramTable}

-- the first fault of the header, apart from a fault of the program header table
unfoldable pub ident_fault : List ℕ → Option CoreFault
ident_fault file = fault_if (is_not_elf file) NotElf
    (fault_if (not (slice_index file ei_class == elfclass64)) Class
    (fault_if (not (slice_index file ei_data == elfdata2lsb)) Order
    (fault_if (not (machine_of file == em_x86_64)) Machine
    (fault_if (not (type_of file == et_core)) Kind None))))

-- the table of program headers lies in the file, and e_phnum gives their number
unfoldable pub has_segments : List ℕ → Bool
has_segments file = has_programs (header_of file) (length file) && not ((header_of file).program_count == pn_xnum)

-- the first fault of the file header
unfoldable pub header_fault : List ℕ → Option CoreFault
header_fault file = option_or (ident_fault file) (fault_if (not (has_segments file)) ProgramTable None)
