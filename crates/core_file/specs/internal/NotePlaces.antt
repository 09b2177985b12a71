-- Notes, given the places of their parts.
use Rattle.std.specs.Prelude.{ℕ, List, take, drop}
use Rattle.elf_sections.specs.Notes.{NoteParts}
use Rattle.core_file.specs.declared.notes.NotePlace.{NotePlace}

-- the note at these places
abbrev pub note_view : List ℕ → NotePlace → NoteParts
note_view bytes p = record {
  name = take p.name_len (drop p.name bytes);
  kind = p.kind;
  descriptor = take p.size (drop p.descriptor bytes);
}

abbrev pub descriptor_at : List ℕ → NotePlace → List ℕ
descriptor_at bytes p = take p.size (drop p.descriptor bytes)
