-- The program headers of a table, read one by one.
use Rattle.std.proofs.Common.{◌≡◌, ℕ, ◌+◌, ◌*◌, List, [], ◌∷◌, ◌++◌, length, refl, arith}
use Rattle.std.proofs.lemmas.List.FromFn.{map-range_with_len_more, length-map-range_with_len}
use Rattle.elf_sections.specs.ElfNumbers.{program_header_size}
use Rattle.core_file.specs.Segments.{segment_at, segments_from}

-- No program header, and one program header more.
pub segments_none : (bytes : List ℕ) (table : ℕ) → segments_from bytes table 0 ≡ []
unfolding segments_from
segments_none bytes table = refl

pub segments_more : (bytes : List ℕ) (table k : ℕ) → segments_from bytes table (k + 1) ≡ segments_from bytes table k ++ segment_at bytes (table + program_header_size * k) ∷ []
unfolding segments_from
segments_more bytes table k = map-range_with_len_more (λ j. segment_at bytes (table + program_header_size * j)) 0 k k (omega arith)

pub length_segments : (bytes : List ℕ) (table count : ℕ) → length (segments_from bytes table count) ≡ count
unfolding segments_from
length_segments bytes table count = length-map-range_with_len (λ j. segment_at bytes (table + program_header_size * j)) 0 count
