-- The file header (System V gABI, "ELF Header"), and the faults in it.
use Rattle.std.specs.Prelude.{ℕ, ◌+◌, ◌*◌, ◌==◌, ◌||◌, ◌&&◌, Bool, not, List, [], ◌∷◌, Option, None, length, take, slice_index, nat_lt, nat_le}
use Rattle.std.specs.Str.{bytes_eq}
use Rattle.std.specs.Option.{option_or}
use Rattle.sym_edges.specs.Results.{fault_if}
use Rattle.elf_sections.specs.Numbers.{u16_at, u64_at}
use Rattle.elf_sections.specs.declared.header.FileHeader.{FileHeader}
use Rattle.elf_sections.specs.declared.fault.ElfFault.{ElfFault}
use Rattle.elf_sections.specs.declared.fault.ElfFault.TheVariants.{NotElf, Class, Order, Machine, Kind, SectionTable}
use Rattle.elf_sections.specs.ElfNumbers.{ei_class, elfclass64, ei_data, elfdata2lsb, em_x86_64, et_exec, et_dyn, file_header_size, section_header_size, shn_loreserve}

-- the fields of the file header (Elf64_Ehdr)
unfoldable pub header_of : List ℕ → FileHeader
header_of file = record {
  -- e_phoff
  program_table = u64_at file 32;
  -- e_shoff
  section_table = u64_at file 40;
  -- e_phentsize
  program_size = u16_at file 54;
  -- e_phnum
  program_count = u16_at file 56;
  -- e_shentsize
  section_size = u16_at file 58;
  -- e_shnum
  section_count = u16_at file 60;
  -- e_shstrndx
  names_index = u16_at file 62;
}

-- e_type and e_machine
unfoldable pub type_of : List ℕ → ℕ
type_of file = u16_at file 16

unfoldable pub machine_of : List ℕ → ℕ
machine_of file = u16_at file 18

-- the four bytes that begin each ELF file (EI_MAG0 to EI_MAG3)
abbrev pub magic : List ℕ
magic = 0x7f ∷ 0x45 ∷ 0x4c ∷ 0x46 ∷ []

-- the file is shorter than a file header, or does not begin with the magic bytes
unfoldable pub is_not_elf : List ℕ → Bool
is_not_elf file = nat_lt (length file) file_header_size || not (bytes_eq (take 4 file) magic)

-- the file is neither an executable nor a shared object
unfoldable pub is_other_kind : List ℕ → Bool
is_other_kind file = not (type_of file == et_exec || type_of file == et_dyn)

-- the section header table lies within `len` bytes, at an offset above 0. It has at least one and
-- fewer than `shn_loreserve` headers, of 64 bytes each
unfoldable pub has_sections : FileHeader → ℕ → Bool
has_sections header len =
    (nat_lt 0 header.section_table && (nat_lt 0 header.section_count && nat_lt header.section_count shn_loreserve))
    && ((header.section_size == section_header_size) && nat_le (header.section_table + section_header_size * header.section_count) len)

-- the first of the faults of the header that are looked for before the file's type
unfoldable pub machine_fault : List ℕ → Option ElfFault
machine_fault file = fault_if (is_not_elf file) NotElf
    (fault_if (not (slice_index file ei_class == elfclass64)) Class
    (fault_if (not (slice_index file ei_data == elfdata2lsb)) Order
    (fault_if (not (machine_of file == em_x86_64)) Machine None)))

-- the first of the faults of the header that are looked for before its section header table
unfoldable pub ident_fault : List ℕ → Option ElfFault
ident_fault file = option_or (machine_fault file) (fault_if (is_other_kind file) Kind None)

-- the fault of a file whose section header table is missing or not as `has_sections` says
unfoldable pub section_table_fault : List ℕ → Option ElfFault
section_table_fault file = fault_if (not (has_sections (header_of file) (length file))) SectionTable None

-- the first fault of the file header
unfoldable pub header_fault : List ℕ → Option ElfFault
header_fault file = option_or (ident_fault file) (section_table_fault file)

-- the first fault of the header of a supplementary file, which may be of any type (most are
-- relocatable)
unfoldable pub sup_header_fault : List ℕ → Option ElfFault
sup_header_fault file = option_or (machine_fault file) (section_table_fault file)
