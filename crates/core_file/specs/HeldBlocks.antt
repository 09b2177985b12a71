-- How many bytes of a stream are kept in memory: blocks that are all zeros are not.
use Rattle.std.specs.Prelude.{ℕ, ◌*◌, ◌/◌, ◌^◌, ◌==◌, ◌||◌, Bool, not, List, length, take, drop, map, count_by, nat_lt}
use Rattle.std.specs.List.{list_all, range_with_len}

-- some byte is not zero
abbrev pub has_some : List ℕ → Bool
has_some bytes = not (list_all (λ b. b == 0) bytes)

-- the first n blocks of `size` bytes
unfoldable pub first_blocks : ℕ → ℕ → List ℕ → List (List ℕ)
first_blocks size n bytes = map (λ k. take size (drop (size * k) bytes)) (range_with_len 0 n)

-- how many of the complete blocks of `size` bytes are not all zeros
unfoldable pub held_blocks : ℕ → List ℕ → ℕ
held_blocks size bytes = count_by has_some (first_blocks size (length bytes / size) bytes)

-- there are more than `limit` bytes, or more than `room` bytes in complete blocks that are not all zeros
unfoldable pub is_past : ℕ → ℕ → ℕ → List ℕ → Bool
is_past size limit room bytes = nat_lt limit (length bytes) || nat_lt room (size * held_blocks size bytes)

-- a core file is too long if it has more than 2^40 bytes, or more than 2^32 bytes in complete blocks of 4,096 bytes that are not all zeros
unfoldable pub is_too_long : List ℕ → Bool
is_too_long bytes = is_past 4096 (2 ^ 40) (2 ^ 32) bytes
