-- What is collected from notes: the threads, `limit` at most, and the first note of mapped files.
use Rattle.std.specs.Prelude.{ℕ, List, ◌++◌, Option, take, map, filter, find}
use Rattle.std.specs.Option.{option_map, option_or}
use Rattle.elf_sections.specs.Notes.{NoteParts}
use Rattle.core_file.specs.CoreNotes.{is_prstatus, is_files}
use Rattle.core_file.specs.Threads.{thread_of}
use Rattle.core_file.specs.declared.threads.Thread.{Thread}
use Rattle.core_file.specs.declared.gather.Found.{Found}

-- the descriptor of the first note of mapped files
unfoldable pub first_files : List NoteParts → Option (List ℕ)
first_files notes = option_map (λ note. note.descriptor) (find is_files notes)

unfoldable pub threads_of : List NoteParts → List Thread
threads_of notes = map (λ note. thread_of note.descriptor) (filter is_prstatus notes)

-- the threads and the files so far
pub record Gathered : Type 0 where
  pub threads : List Thread
  pub files : Option (List ℕ)

-- the threads and the files after more notes
unfoldable pub gathered : ℕ → Gathered → List NoteParts → Gathered
gathered limit so_far notes = record {
  threads = take limit (so_far.threads ++ threads_of notes);
  files = option_or so_far.files (first_files notes);
}

abbrev pub so_far : Found → Gathered
so_far found = record { threads = found.threads.items; files = found.files }
