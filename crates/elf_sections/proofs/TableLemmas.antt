-- The section headers of a table, read one by one.
use Rattle.std.proofs.Common.{◌≡◌, ℕ, ◌+◌, ◌*◌, List, [], ◌∷◌, ◌++◌, length, refl, arith}
use Rattle.std.proofs.lemmas.List.FromFn.{map-range_with_len_more, length-map-range_with_len}
use Rattle.elf_sections.specs.ElfNumbers.{section_header_size}
use Rattle.elf_sections.specs.Sections.{section_at, sections_from}

pub sections_none : (file : List ℕ) (table : ℕ) → sections_from file table 0 ≡ []
unfolding sections_from
sections_none file table = refl

pub sections_more : (file : List ℕ) (table k : ℕ) → sections_from file table (k + 1) ≡ sections_from file table k ++ section_at file (table + section_header_size * k) ∷ []
unfolding sections_from
sections_more file table k = map-range_with_len_more (λ j. section_at file (table + section_header_size * j)) 0 k k (omega arith)

pub length_sections : (file : List ℕ) (table count : ℕ) → length (sections_from file table count) ≡ count
unfolding sections_from
length_sections file table count = length-map-range_with_len (λ j. section_at file (table + section_header_size * j)) 0 count
