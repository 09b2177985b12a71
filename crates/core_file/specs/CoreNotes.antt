-- The notes of a core file (System V gABI, "Note Section"): the states of threads (NT_PRSTATUS) and the mapped files (NT_FILE).
use Rattle.std.specs.Prelude.{ℕ, zero, suc, ◌+◌, ◌*◌, ◌==◌, ◌&&◌, Bool, true, not, List, [], Option, length, drop, position, count_by, nat_le, if◌then◌else◌}
use Rattle.std.specs.List.{flat_map, list_all}
use Rattle.std.specs.Option.{option_map}
use Rattle.std.specs.Str.{bytes_eq}
use Rattle.elf_sections.specs.Numbers.{u64_at}
use Rattle.elf_sections.specs.Notes.{NoteParts, notes, has_note, after_note}
use Rattle.core_file.specs.CoreNumbers.{pt_note, core_owner, nt_prstatus, nt_file}
use Rattle.core_file.specs.Segments.{segments, bytes_of}
use Rattle.core_file.specs.declared.segments.Segment.{Segment}
use Rattle.core_file.specs.declared.fault.CoreFault.{CoreFault}
use Rattle.core_file.specs.declared.fault.CoreFault.TheVariants.{BadNote}

-- the note has the state of a thread
unfoldable pub is_prstatus : NoteParts → Bool
is_prstatus note = bytes_eq note.name core_owner && (note.kind == nt_prstatus)

-- the note has the mapped files
unfoldable pub is_files : NoteParts → Bool
is_files note = bytes_eq note.name core_owner && (note.kind == nt_file)

-- a state has at least 272 bytes, which contain all registers that are read
unfoldable pub has_state : List ℕ → Bool
has_state descriptor = nat_le 272 (length descriptor)

-- the number of mapped files, and the number of bytes before their names
unfoldable pub file_count : List ℕ → ℕ
file_count descriptor = u64_at descriptor 0

unfoldable pub files_size : List ℕ → ℕ
files_size descriptor = 16 + 24 * file_count descriptor

-- the descriptor has the count and the page size, three numbers for each file, and at least as many zero-ended names
unfoldable pub has_files : List ℕ → Bool
has_files descriptor = nat_le 16 (length descriptor) && (nat_le (files_size descriptor) (length descriptor)
    && nat_le (file_count descriptor) (count_by (λ b. b == 0) (drop (files_size descriptor) descriptor)))

-- the descriptor has what the type of the note requires
unfoldable pub is_whole_note : NoteParts → Bool
is_whole_note note = if is_prstatus note then has_state note.descriptor else if is_files note then has_files note.descriptor else true

-- the bytes after the first `n` notes, or after the last note that fits
unfoldable pub left_over : ℕ → List ℕ → List ℕ
left_over zero bytes = bytes
left_over (suc n) bytes = if has_note bytes then left_over n (after_note bytes) else bytes

-- the bytes are notes up to their end, each with what its type requires. Each note has some bytes, so there are no more notes than bytes
unfoldable pub are_whole_notes : List ℕ → Bool
are_whole_notes bytes = (length (left_over (length bytes) bytes) == 0) && list_all is_whole_note (notes bytes)

-- the segment is one of notes, and not all of them are whole
unfoldable pub has_bad_note : List ℕ → Segment → Bool
has_bad_note file s = (s.kind == pt_note) && not (are_whole_notes (bytes_of file s))

-- the fault of the first such segment
unfoldable pub note_fault : List ℕ → Option CoreFault
note_fault file = option_map BadNote (position (has_bad_note file) (segments file))

-- the notes of a segment, and those of all segments in their order
unfoldable pub notes_of : List ℕ → Segment → List NoteParts
notes_of file s = if s.kind == pt_note then notes (bytes_of file s) else []

unfoldable pub all_notes : List ℕ → List Segment → List NoteParts
all_notes file all = flat_map (notes_of file) all
