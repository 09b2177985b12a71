-- Numbers at a place of a file, with the lowest byte first (System V gABI, ELFDATA2LSB).
use Rattle.std.specs.Prelude.{ℕ, List, drop}
use Rattle.leb_cursor.specs.Readings.{fixed_sum}

-- an Elf64_Half
unfoldable pub u16_at : List ℕ → ℕ → ℕ
u16_at bytes at = fixed_sum 2 (drop at bytes)

-- an Elf64_Word
unfoldable pub u32_at : List ℕ → ℕ → ℕ
u32_at bytes at = fixed_sum 4 (drop at bytes)

-- an Elf64_Addr, an Elf64_Off or an Elf64_Xword
unfoldable pub u64_at : List ℕ → ℕ → ℕ
u64_at bytes at = fixed_sum 8 (drop at bytes)
