-- The files that the process had mapped: its first note NT_FILE.
use Rattle.std.specs.Prelude.{ℕ, zero, suc, ◌+◌, ◌==◌, not, List, [], ◌∷◌, take, drop, find}
use Rattle.std.specs.List.{prefix_len}
use Rattle.std.specs.Option.{option_map_or}
use Rattle.elf_sections.specs.Numbers.{u64_at}
use Rattle.elf_sections.specs.Notes.{NoteParts}
use Rattle.core_file.specs.CoreNotes.{is_files, file_count, files_size}

-- a mapping: its addresses from `start` up to `end`, its place in the file in pages, and the file's name
pub record MappedFile : Type 0 where
  pub start : ℕ
  pub end : ℕ
  pub offset : ℕ
  pub text : List ℕ

-- the text at the start of the bytes, up to a zero, and the bytes after that zero
unfoldable pub front_text : List ℕ → List ℕ
front_text bytes = take (prefix_len (λ b. not (b == 0)) bytes) bytes

unfoldable pub behind_text : List ℕ → List ℕ
behind_text bytes = drop (prefix_len (λ b. not (b == 0)) bytes + 1) bytes

-- this many mappings; for each of them `numbers` has three numbers, and `texts` has its name
unfoldable pub files_from : ℕ → List ℕ → List ℕ → List MappedFile
files_from zero numbers texts = []
files_from (suc n) numbers texts =
    record { start = u64_at numbers 0; end = u64_at numbers 8; offset = u64_at numbers 16; text = front_text texts }
    ∷ files_from n (drop 24 numbers) (behind_text texts)

-- the mappings in a note
unfoldable pub files_of : List ℕ → List MappedFile
files_of descriptor = files_from (file_count descriptor) (drop 16 descriptor) (drop (files_size descriptor) descriptor)

-- the mappings in the first note of mapped files
unfoldable pub files_in : List NoteParts → List MappedFile
files_in notes = option_map_or (λ note. files_of note.descriptor) (find is_files notes) []
