-- Worked examples: build ids among notes.
use Rattle.std.proofs.Common.{◌≡◌, ℕ, List, [], ◌∷◌, ◌++◌, take, codes, Some, None, refl}
use Rattle.std.specs.Prelude.{replicate}
use Rattle.elf_sections.specs.Notes.{notes, first_id, build_id}
use Rattle.elf_sections.proofs.Elf.{le}
use Rattle.sym_edges.proofs.Hex.{bytes}
use Rattle.elf_sections.proofs.Computing.{elf_sections_computes}
use Rattle.elf_sections.proofs.Elf.{Section, plain, file_of, note, elf_builds}

-- The padding of the last descriptor may be missing.
one_id : first_id (notes (note (bytes (codes "0a0b")))) ≡ Some (bytes (codes "0a0b"))
unfolding elf_sections_computes elf_builds
one_id = refl

-- A note with another name or type is in front.
other_owner : first_id (notes (le 4 4 ++ le 4 1 ++ le 4 3 ++ codes "ABC\0" ++ 1 ∷ 0 ∷ 0 ∷ 0 ∷ note (7 ∷ []))) ≡ Some (7 ∷ [])
unfolding elf_sections_computes elf_builds
other_owner = refl

other_type : first_id (notes (le 4 4 ++ le 4 1 ++ le 4 5 ++ codes "GNU\0" ++ 1 ∷ 0 ∷ 0 ∷ 0 ∷ note (7 ∷ []))) ≡ Some (7 ∷ [])
unfolding elf_sections_computes elf_builds
other_type = refl

-- A build id has 1 to 64 bytes.
empty_id : first_id (notes (note [])) ≡ None
unfolding elf_sections_computes elf_builds
empty_id = refl

longest_id : first_id (notes (note (replicate 64 1))) ≡ Some (replicate 64 1)
unfolding elf_sections_computes elf_builds
longest_id = refl

too_long_id : first_id (notes (note (replicate 65 1))) ≡ None
unfolding elf_sections_computes elf_builds
too_long_id = refl

-- A note that does not fit ends the notes.
cut_id : first_id (notes (take 17 (note (1 ∷ 2 ∷ [])))) ≡ None
unfolding elf_sections_computes elf_builds
cut_id = refl

-- A section of notes.
abbrev noted : List ℕ → Section
noted content = plain (codes ".note") 7 content

-- The first build id in the sections of notes counts.
first_section : build_id (file_of 0 (plain [] 0 [] ∷ noted [] ∷ noted (note (1 ∷ [])) ∷ noted (note (2 ∷ [])) ∷ [])) ≡ Some (1 ∷ [])
unfolding elf_sections_computes elf_builds
first_section = refl

-- A section of another type has no notes.
no_section_of_notes : build_id (file_of 0 (plain [] 0 [] ∷ plain (codes ".note") 1 (note (1 ∷ [])) ∷ [])) ≡ None
unfolding elf_sections_computes elf_builds
no_section_of_notes = refl
