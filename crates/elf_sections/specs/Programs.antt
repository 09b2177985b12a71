-- Program headers, the base, and the addresses of code (System V gABI, "Program Header").
use Rattle.std.specs.Prelude.{ℕ, ◌+◌, ◌*◌, ◌^◌, ◌==◌, ◌||◌, ◌&&◌, Bool, not, List, Option, Some, None, length, map, find, nat_lt, nat_le, if◌then◌else◌}
use Rattle.std.specs.List.{list_any, range_with_len, filter_map}
use Rattle.std.specs.Option.{option_map_or}
use Rattle.sym_edges.specs.Addresses.{Range}
use Rattle.elf_sections.specs.Numbers.{u32_at, u64_at}
use Rattle.sym_edges.specs.Results.{fault_if}
use Rattle.elf_sections.specs.FileHeader.{header_of}
use Rattle.elf_sections.specs.Sections.{sections, has_flag}
use Rattle.elf_sections.specs.declared.header.FileHeader.{FileHeader}
use Rattle.elf_sections.specs.declared.section.SectionHeader.{SectionHeader}
use Rattle.elf_sections.specs.declared.program.ProgramHeader.{ProgramHeader}
use Rattle.elf_sections.specs.declared.fault.ElfFault.{ElfFault}
use Rattle.elf_sections.specs.declared.fault.ElfFault.TheVariants.{ProgramTable}
use Rattle.elf_sections.specs.ElfNumbers.{program_header_size, pt_load, shf_alloc, shf_execinstr}

-- a program header at a place (Elf64_Phdr)
unfoldable pub program_at : List ℕ → ℕ → ProgramHeader
program_at file at = record {
  -- p_type
  kind = u32_at file at;
  -- p_vaddr
  address = u64_at file (at + 16);
}

-- the program header table is empty, or it has headers of 56 bytes and lies within a file of `len` bytes
unfoldable pub has_programs : FileHeader → ℕ → Bool
has_programs header len = (header.program_count == 0)
    || ((header.program_size == program_header_size) && nat_le (header.program_table + program_header_size * header.program_count) len)

-- the fault `ProgramTable`, if the table is not empty and either extends past the end of the file or has headers of another size
unfoldable pub program_fault : List ℕ → Option ElfFault
program_fault file = fault_if (not (has_programs (header_of file) (length file))) ProgramTable None

-- `count` program headers of a table, from number `first` on
unfoldable pub programs_from : List ℕ → ℕ → ℕ → ℕ → List ProgramHeader
programs_from file table first count = map (λ k. program_at file (table + program_header_size * k)) (range_with_len first count)

-- the list of all program headers
unfoldable pub programs : List ℕ → List ProgramHeader
programs file = programs_from file (header_of file).program_table 0 (header_of file).program_count

-- the address of the first loaded segment, or 0 if there is none
unfoldable pub loaded_address : List ProgramHeader → ℕ
loaded_address all = option_map_or (λ p. p.address) (find (λ p. p.kind == pt_load) all) 0

-- the base of the file
unfoldable pub base : List ℕ → ℕ
base file = loaded_address (programs file)

-- the section is loaded and has machine instructions; it is not empty, starts at or above the base `low`, and ends below 2^64
unfoldable pub is_code : ℕ → SectionHeader → Bool
is_code low s = (has_flag shf_alloc s && has_flag shf_execinstr s)
    && (nat_lt 0 s.size && (nat_le low s.address && nat_lt (s.address + s.size) (2 ^ 64)))

-- the addresses of a section, if it is code
unfoldable pub code_range : ℕ → SectionHeader → Option Range
code_range low s = if is_code low s then Some (record { start = s.address; end = s.address + s.size }) else None

-- the addresses of code, in the order of the sections
unfoldable pub code : List ℕ → List Range
code file = filter_map (code_range (base file)) (sections file)

-- the address lies in code
unfoldable pub is_in_code : List Range → ℕ → Bool
is_in_code ranges a = list_any (λ r. nat_le r.start a && nat_lt a r.end) ranges
