-- Mappings, given the places of their names.
use Rattle.std.specs.Prelude.{ℕ, ◌+◌, ◌≤◌, List, [], ◌∷◌, take, drop}
use Rattle.core_file.specs.MappedFiles.{MappedFile}
use Rattle.core_file.specs.declared.files.FilePlace.{FilePlace}

-- the mapping whose name is at this place of a note
abbrev pub file_view : List ℕ → FilePlace → MappedFile
file_view note f = record { start = f.start; end = f.end; offset = f.offset; text = take f.size (drop f.text note) }

-- each name lies within a note of `len` bytes
abbrev pub IsInside : ℕ → List FilePlace → Type 0
IsInside len [] = Unit {0}
IsInside len (f ∷ files) = (f.text + f.size ≤ len) × IsInside len files
