-- The segments of a core file (System V gABI, "Program Header").
use Rattle.std.specs.Prelude.{ℕ, ◌+◌, ◌*◌, ◌==◌, ◌||◌, ◌&&◌, Bool, not, List, Option, length, take, drop, map, position, nat_le}
use Rattle.std.specs.List.{range_with_len}
use Rattle.std.specs.Option.{option_map}
use Rattle.elf_sections.specs.ElfNumbers.{program_header_size, pt_load}
use Rattle.elf_sections.specs.Numbers.{u32_at, u64_at}
use Rattle.elf_sections.specs.FileHeader.{header_of}
use Rattle.core_file.specs.CoreNumbers.{pt_note, address_end}
use Rattle.core_file.specs.declared.segments.Segment.{Segment}
use Rattle.core_file.specs.declared.fault.CoreFault.{CoreFault}
use Rattle.core_file.specs.declared.fault.CoreFault.TheVariants.{BadSegment}

-- a program header at a place (Elf64_Phdr)
unfoldable pub segment_at : List ℕ → ℕ → Segment
segment_at bytes at = record {
  -- p_type
  kind = u32_at bytes at;
  -- p_flags
  flags = u32_at bytes (at + 4);
  -- p_offset
  offset = u64_at bytes (at + 8);
  -- p_vaddr
  address = u64_at bytes (at + 16);
  -- p_filesz
  file_size = u64_at bytes (at + 32);
  -- p_memsz
  memory_size = u64_at bytes (at + 40);
}

-- the first `count` program headers of a table
unfoldable pub segments_from : List ℕ → ℕ → ℕ → List Segment
segments_from bytes table count = map (λ k. segment_at bytes (table + program_header_size * k)) (range_with_len 0 count)

-- all segments of a core file
unfoldable pub segments : List ℕ → List Segment
segments file = segments_from file (header_of file).program_table (header_of file).program_count

-- the bytes of a segment that lies within the file
unfoldable pub bytes_of : List ℕ → Segment → List ℕ
bytes_of file s = take s.file_size (drop s.offset file)

-- the segment is one of notes that extends past the end of the file, or a loaded one whose bytes extend past the last address
unfoldable pub is_bad : List ℕ → Segment → Bool
is_bad file s = ((s.kind == pt_note) && not (nat_le (s.offset + s.file_size) (length file)))
    || ((s.kind == pt_load) && not (nat_le (s.address + s.file_size) address_end))

-- the fault of the first such segment
unfoldable pub segment_fault : List ℕ → Option CoreFault
segment_fault file = option_map BadSegment (position (is_bad file) (segments file))
