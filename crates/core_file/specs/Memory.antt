-- The memory of the process, as far as a core file has it: the bytes of its loaded segments (System V gABI, "Program Header").
use Rattle.std.specs.Prelude.{ℕ, zero, suc, ◌+◌, ◌-◌, ◌==◌, ◌&&◌, Bool, List, [], ◌∷◌, Option, None, Some, length, find, min, slice_index, nat_lt, nat_le, if◌then◌else◌}
use Rattle.std.specs.Option.{option_map}
use Rattle.elf_sections.specs.ElfNumbers.{pt_load}
use Rattle.elf_sections.specs.Numbers.{u64_at}
use Rattle.core_file.specs.CoreNumbers.{address_end}
use Rattle.core_file.specs.declared.segments.Segment.{Segment}

-- a core file by its bytes and its segments
pub record Memory : Type 0 where
  pub file : List ℕ
  pub segments : List Segment

-- how many of a segment's bytes are in the file, which may be cut off
unfoldable pub present : List ℕ → Segment → ℕ
present file s = min s.file_size (length file - s.offset)

-- a segment gives an address a byte that is in the file
unfoldable pub gives : List ℕ → ℕ → Segment → Bool
gives file a s = (s.kind == pt_load) && (nat_le s.address a && nat_lt a (s.address + present file s))

-- the byte that the segment gives the address
unfoldable pub given : List ℕ → ℕ → Segment → ℕ
given file a s = slice_index file (s.offset + (a - s.address))

-- the byte at an address: if several segments give one, the first of them counts
unfoldable pub byte_at : Memory → ℕ → Option ℕ
byte_at memory a =
    if nat_lt a address_end then option_map (given memory.file a) (find (gives memory.file a) memory.segments) else None

abbrev pub front_by : Option ℕ → List ℕ → List ℕ
front_by None later = []
front_by (Some b) later = b ∷ later

-- the bytes from an address on, `n` at most, up to the first address without a byte
unfoldable pub front_at : Memory → ℕ → ℕ → List ℕ
front_at memory a zero = []
front_at memory a (suc n) = front_by (byte_at memory a) (front_at memory (a + 1) n)

-- the eight bytes at an address as a number, the lowest first, if all of them are in memory
unfoldable pub word_at : Memory → ℕ → Option ℕ
word_at memory a = if length (front_at memory a 8) == 8 then Some (u64_at (front_at memory a 8) 0) else None
