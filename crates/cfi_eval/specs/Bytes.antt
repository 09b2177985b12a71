-- The content of memory, given as runs of bytes. If several runs contain an address, the last of
-- them counts. A word is eight bytes, the lowest byte first.
use Rattle.std.specs.Prelude.{ℕ, zero, suc, ◌+◌, ◌-◌, ◌*◌, ◌^◌, ◌&&◌, nat_lt, nat_le, Bool, if◌then◌else◌, List, [], ◌∷◌, length, slice_index, Option, None, Some}
use Rattle.std.specs.Option.{option_or, option_map, option_and_then}
use Rattle.cfi_eval.specs.declared.memory.MemRun.{MemRun}

abbrev pub holds : ℕ → MemRun → Bool
holds a run = nat_le run.start a && nat_lt a (run.start + length run.bytes)

-- the byte at an address
unfoldable pub byte_at : List MemRun → ℕ → Option ℕ
byte_at [] a = None
byte_at (run ∷ runs) a = option_or (byte_at runs a) (if holds a run then Some (slice_index run.bytes (a - run.start)) else None)

-- the number in the n bytes from an address on, the lowest byte first. Each byte must be known and
-- at an address below 2^64
unfoldable pub number_at : List MemRun → ℕ → ℕ → Option ℕ
number_at runs zero a = Some 0
number_at runs (suc n) a =
    if nat_lt a (2 ^ 64)
    then option_and_then (λ low. option_map (λ high. low + 256 * high) (number_at runs n (a + 1))) (byte_at runs a)
    else None

-- the word at an address
unfoldable pub word_at : List MemRun → ℕ → Option ℕ
word_at runs a = number_at runs 8 a
