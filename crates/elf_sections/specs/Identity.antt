-- The 16 bytes that identify a build.
use Rattle.std.specs.Prelude.{ℕ, ◌-◌, ◌%◌, ◌==◌, List, ◌++◌, length, take, map, fold, min, slice_index, replicate, bit_xor, if◌then◌else◌}
use Rattle.std.specs.List.{range_with_len}

-- byte j of the folded text: the exclusive or of those of its first n bytes whose places are j
-- modulo 16
unfoldable pub folded_byte : ℕ → List ℕ → ℕ → ℕ
folded_byte n text j = fold bit_xor 0 (map (λ k. if k % 16 == j then slice_index text k else 0) (range_with_len 0 n))

-- the exclusive or of all groups of 16 bytes among the first `limit` bytes of a text; bytes after its end count as zero
unfoldable pub folded : ℕ → List ℕ → List ℕ
folded limit text = map (folded_byte (min limit (length text)) text) (range_with_len 0 16)

-- the first 16 bytes of an id; a shorter id is padded with zeros
unfoldable pub front16 : List ℕ → List ℕ
front16 id = take 16 id ++ replicate (16 - length id) 0
