-- Section headers, their names and their bytes (System V gABI, "Sections"), and the faults in them.
use Rattle.std.specs.Prelude.{ℕ, ◌+◌, ◌*◌, ◌==◌, ◌||◌, ◌&&◌, Bool, not, List, [], ◌∷◌, ◌++◌, Option, Some, None, length, take, drop, map, position, nat_le, nat_eq, unwrap_or, is_none, slice_get, bit_and, codes, option_and_then, if◌then◌else◌}
use Rattle.std.specs.List.{list_any, range_with_len, starts_with}
use Rattle.std.specs.Option.{option_map}
use Rattle.elf_sections.specs.Numbers.{u32_at, u64_at}
use Rattle.sym_edges.specs.Results.{fault_if}
use Rattle.elf_sections.specs.Strings.{string_at}
use Rattle.elf_sections.specs.FileHeader.{header_of}
use Rattle.elf_sections.specs.declared.section.SectionHeader.{SectionHeader}
use Rattle.elf_sections.specs.declared.fault.ElfFault.{ElfFault}
use Rattle.elf_sections.specs.declared.fault.ElfFault.TheVariants.{SectionNames, SectionBytes, Compressed}
use Rattle.elf_sections.specs.ElfNumbers.{section_header_size, sht_null, sht_symtab, sht_strtab, sht_note, sht_nobits, sht_dynsym, shf_compressed}

-- a section header at a place (Elf64_Shdr)
unfoldable pub section_at : List ℕ → ℕ → SectionHeader
section_at file at = record {
  -- sh_name
  name = u32_at file at;
  -- sh_type
  kind = u32_at file (at + 4);
  -- sh_flags
  flags = u64_at file (at + 8);
  -- sh_addr
  address = u64_at file (at + 16);
  -- sh_offset
  offset = u64_at file (at + 24);
  -- sh_size
  size = u64_at file (at + 32);
  -- sh_link
  link = u32_at file (at + 40);
}

-- the first `count` section headers of a table
unfoldable pub sections_from : List ℕ → ℕ → ℕ → List SectionHeader
sections_from file table count = map (λ k. section_at file (table + section_header_size * k)) (range_with_len 0 count)

-- the list of all section headers
unfoldable pub sections : List ℕ → List SectionHeader
sections file = sections_from file (header_of file).section_table (header_of file).section_count

-- the type of the section says that the file has no bytes for it
unfoldable pub is_empty_kind : SectionHeader → Bool
is_empty_kind s = s.kind == sht_null || s.kind == sht_nobits

-- the bytes of a section, or `None` if they extend past the end of the file
unfoldable pub content : List ℕ → SectionHeader → Option (List ℕ)
content file s = if is_empty_kind s then Some [] else
    if nat_le (s.offset + s.size) (length file) then Some (take s.size (drop s.offset file)) else None

-- the bytes of a section, or no bytes if they extend past the end of the file
unfoldable pub bytes_of : List ℕ → SectionHeader → List ℕ
bytes_of file s = unwrap_or (content file s) []

-- the bytes of the section with the names of all sections, if the file has it
unfoldable pub name_table : List ℕ → Option (List ℕ)
name_table file = option_and_then (content file) (slice_get (sections file) (header_of file).names_index)

unfoldable pub names : List ℕ → List ℕ
names file = unwrap_or (name_table file) []

-- whether the section has this name: at the section's place, the table of names has it, followed by
-- a zero byte
unfoldable pub is_named : List ℕ → List ℕ → SectionHeader → Bool
is_named table name s = starts_with nat_eq (drop s.name table) (name ++ 0 ∷ [])

-- the name of the section begins with `front`
unfoldable pub is_named_from : List ℕ → List ℕ → SectionHeader → Bool
is_named_from table front s = starts_with nat_eq (drop s.name table) front

-- the names of the sections that are read
abbrev pub read_names : List (List ℕ)
read_names = codes ".debug_info" ∷ codes ".debug_abbrev" ∷ codes ".debug_line" ∷ codes ".debug_line_str" ∷ codes ".debug_str"
    ∷ codes ".debug_str_offsets" ∷ codes ".debug_addr" ∷ codes ".debug_ranges" ∷ codes ".debug_rnglists"
    ∷ codes ".debug_frame" ∷ codes ".eh_frame" ∷ codes ".text" ∷ []

-- the section is read because of its type
unfoldable pub is_read_kind : SectionHeader → Bool
is_read_kind s = s.kind == sht_symtab || (s.kind == sht_dynsym || (s.kind == sht_strtab || s.kind == sht_note))

-- the section is read, because of its type or its name
unfoldable pub is_read : List ℕ → SectionHeader → Bool
is_read table s = is_read_kind s || list_any (λ name. is_named table name s) read_names

-- the section has this flag
abbrev pub has_flag : ℕ → SectionHeader → Bool
has_flag flag s = not (bit_and s.flags flag == 0)

-- the section is read, and its bytes extend past the end of the file
unfoldable pub leaves_file : List ℕ → List ℕ → SectionHeader → Bool
leaves_file file table s = is_read table s && is_none (content file s)

-- the section is compressed: it is read and has the flag, or its name begins with `.zdebug_`
unfoldable pub is_compressed : List ℕ → SectionHeader → Bool
is_compressed table s = (is_read table s && has_flag shf_compressed s) || is_named_from table (codes ".zdebug_") s

-- there is no table of names, or some section's name does not end with a zero byte inside the table
unfoldable pub names_fault : List ℕ → Option ElfFault
names_fault file = fault_if
    (is_none (name_table file) || list_any (λ s. is_none (string_at (names file) s.name)) (sections file)) SectionNames None

-- the fault of the first section that is read and extends past the end of the file
unfoldable pub bytes_fault : List ℕ → Option ElfFault
bytes_fault file = option_map SectionBytes (position (leaves_file file (names file)) (sections file))

-- the fault of the first section that is compressed
unfoldable pub compressed_fault : List ℕ → Option ElfFault
compressed_fault file = option_map Compressed (position (is_compressed (names file)) (sections file))
