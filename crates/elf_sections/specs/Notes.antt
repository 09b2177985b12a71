-- Notes, and the build id among them (System V gABI, "Note Section"; LSB core, GNU notes).
use Rattle.std.specs.Prelude.{ℕ, zero, suc, ◌+◌, ◌*◌, ◌/◌, ◌==◌, ◌&&◌, Bool, List, [], ◌∷◌, Option, length, take, drop, find, nat_lt, nat_le, codes, if◌then◌else◌}
use Rattle.std.specs.List.{flat_map}
use Rattle.std.specs.Option.{option_map}
use Rattle.std.specs.Str.{bytes_eq}
use Rattle.elf_sections.specs.Numbers.{u32_at}
use Rattle.elf_sections.specs.Sections.{sections, bytes_of}
use Rattle.elf_sections.specs.ElfNumbers.{sht_note, nt_gnu_build_id}
use Rattle.elf_sections.specs.declared.section.SectionHeader.{SectionHeader}

-- a note (System V gABI, "Note Section"): its name, type and descriptor
pub record NoteParts : Type 0 where
  pub name : List ℕ
  pub kind : ℕ
  pub descriptor : List ℕ

-- a length, padded to a multiple of 4
unfoldable pub padded : ℕ → ℕ
padded n = (n + 3) / 4 * 4

-- the length of a note up to the end of its descriptor: three numbers, the padded name, and the
-- descriptor without its padding, which may be missing
unfoldable pub note_len : List ℕ → ℕ
note_len bytes = 12 + padded (u32_at bytes 0) + u32_at bytes 4

-- the bytes begin with a whole note
unfoldable pub has_note : List ℕ → Bool
has_note bytes = nat_le 12 (length bytes) && nat_le (note_len bytes) (length bytes)

-- the note at the start of the bytes
unfoldable pub note_at : List ℕ → NoteParts
note_at bytes = record {
  name = take (u32_at bytes 0) (drop 12 bytes);
  kind = u32_at bytes 8;
  descriptor = take (u32_at bytes 4) (drop (12 + padded (u32_at bytes 0)) bytes);
}

-- the bytes after the first note
unfoldable pub after_note : List ℕ → List ℕ
after_note bytes = drop (12 + padded (u32_at bytes 0) + padded (u32_at bytes 4)) bytes

-- the notes at the start of the bytes, at most `n`; the first note that does not fit ends the list
unfoldable pub notes_in : ℕ → List ℕ → List NoteParts
notes_in zero bytes = []
notes_in (suc n) bytes = if has_note bytes then note_at bytes ∷ notes_in n (after_note bytes) else []

-- the notes of a section. Each note has some bytes, so there are no more notes than bytes. A clause
-- of `find_id` says that this bound cuts off no note
unfoldable pub notes : List ℕ → List NoteParts
notes bytes = notes_in (length bytes) bytes

-- a GNU build id of 1 to 64 bytes
unfoldable pub is_build_id : NoteParts → Bool
is_build_id note = bytes_eq note.name (codes "GNU\0")
    && ((note.kind == nt_gnu_build_id) && (nat_lt 0 (length note.descriptor) && nat_le (length note.descriptor) 64))

-- the first build id among notes
unfoldable pub first_id : List NoteParts → Option (List ℕ)
first_id found = option_map (λ note. note.descriptor) (find is_build_id found)

-- the notes of a section, if it is a section of notes
unfoldable pub notes_of : List ℕ → SectionHeader → List NoteParts
notes_of file s = if s.kind == sht_note then notes (bytes_of file s) else []

-- the first build id in the sections of notes, in the order of the sections
unfoldable pub build_id : List ℕ → Option (List ℕ)
build_id file = first_id (flat_map (notes_of file) (sections file))
