-- Worked examples: each fault of a core file, and the order of the faults.
use Rattle.std.proofs.Common.{◌≡◌, ℕ, ◌+◌, ◌-◌, ◌^◌, List, [], ◌∷◌, ◌++◌, Some, None, take, codes, refl}
use Rattle.std.specs.Prelude.{slice_set, replicate}
use Rattle.sym_edges.proofs.Hex.{little}
use Rattle.core_file.specs.declared.fault.CoreFault.TheVariants.{NotElf, Class, Order, Machine, Kind, ProgramTable, BadSegment, BadNote, NoThread}
use Rattle.core_file.specs.Core.{core_fault}
use Rattle.core_file.proofs.Cores.{load, noted, core_of, core_note, state, registers, thread_note, files, mapping, cores_build}
use Rattle.core_file.proofs.Computing.{core_file_computes}

-- A core of one thread and four bytes of memory.
unfoldable small : List ℕ
unfolding cores_build
small = core_of (noted thread_note ∷ load 6 0x7000 4 (1 ∷ 2 ∷ 3 ∷ 4 ∷ []) ∷ [])

well : core_fault small ≡ None
unfolding cores_build core_file_computes small
well = refl

-- The file header: cut, no ELF file, of 32 bits, with the highest byte first, of another machine,
-- or a shared object.
cut_header : core_fault (take 63 small) ≡ Some NotElf
unfolding cores_build core_file_computes small
cut_header = refl

not_elf : core_fault (slice_set small 3 0x47) ≡ Some NotElf
unfolding cores_build core_file_computes small
not_elf = refl

other_class : core_fault (slice_set small 4 1) ≡ Some Class
unfolding cores_build core_file_computes small
other_class = refl

other_order : core_fault (slice_set small 5 2) ≡ Some Order
unfolding cores_build core_file_computes small
other_order = refl

other_machine : core_fault (slice_set small 18 40) ≡ Some Machine
unfolding cores_build core_file_computes small
other_machine = refl

other_kind : core_fault (slice_set small 16 3) ≡ Some Kind
unfolding cores_build core_file_computes small
other_kind = refl

-- The table of program headers leaves the file, its headers have another size, or their number is
-- stored elsewhere.
cut_table : core_fault (take 175 small) ≡ Some ProgramTable
unfolding cores_build core_file_computes small
cut_table = refl

other_size : core_fault (slice_set small 54 64) ≡ Some ProgramTable
unfolding cores_build core_file_computes small
other_size = refl

count_elsewhere : core_fault (slice_set (slice_set small 56 255) 57 255) ≡ Some ProgramTable
unfolding cores_build core_file_computes small
count_elsewhere = refl

-- A segment of notes leaves the file. A loaded segment that does so is no fault.
cut_notes : core_fault (take 300 small) ≡ Some (BadSegment 0)
unfolding cores_build core_file_computes small
cut_notes = refl

cut_memory : core_fault (take (176 + 356 + 1) small) ≡ None
unfolding cores_build core_file_computes small
cut_memory = refl

-- The bytes of a loaded segment leave the addresses, or end at the last one.
past_end : core_fault (core_of (noted thread_note ∷ load 6 (2 ^ 64 - 3) 4 (1 ∷ 2 ∷ 3 ∷ 4 ∷ []) ∷ [])) ≡ Some (BadSegment 1)
unfolding cores_build core_file_computes
past_end = refl

at_end : core_fault (core_of (noted thread_note ∷ load 6 (2 ^ 64 - 4) 4 (1 ∷ 2 ∷ 3 ∷ 4 ∷ []) ∷ [])) ≡ None
unfolding cores_build core_file_computes
at_end = refl

-- There are bytes after the notes.
left_over_bytes : core_fault (core_of (noted thread_note ∷ noted (thread_note ++ replicate 11 0) ∷ [])) ≡ Some (BadNote 1)
unfolding cores_build core_file_computes
left_over_bytes = refl

-- The padding of the last descriptor may be missing.
no_padding : core_fault (core_of (noted (thread_note ++ little 4 5 ++ little 4 1 ++ little 4 7 ++ codes "CORE\0" ++ 0 ∷ 0 ∷ 0 ∷ 9 ∷ []) ∷ [])) ≡ None
unfolding cores_build core_file_computes
no_padding = refl

-- A state of 271 bytes; a note of another owner is not a state.
short_state : core_fault (core_of (noted (core_note 1 (take 271 (state 11 1 (registers 0 0))) ++ 0 ∷ []) ∷ [])) ≡ Some (BadNote 0)
unfolding cores_build core_file_computes
short_state = refl

other_owner : core_fault (core_of (noted (thread_note ++ little 4 5 ++ little 4 4 ++ little 4 1 ++ codes "LINU\0" ++ 0 ∷ 0 ∷ 0 ∷ 1 ∷ 2 ∷ 3 ∷ 4 ∷ []) ∷ [])) ≡ None
unfolding cores_build core_file_computes
other_owner = refl

-- A note of mapped files lacks a file's numbers, or a file's name.
short_files : core_fault (core_of (noted (thread_note ++ files 2 (mapping 0x1000 0x2000 0) (codes "/a\0\0")) ∷ [])) ≡ Some (BadNote 0)
unfolding cores_build core_file_computes
short_files = refl

textless_files : core_fault (core_of (noted (thread_note ++ files 1 (mapping 0x1000 0x2000 0) (codes "/abc")) ∷ [])) ≡ Some (BadNote 0)
unfolding cores_build core_file_computes
textless_files = refl

-- There is no thread. The fault of a segment comes before that of a note.
no_thread : core_fault (core_of (noted [] ∷ [])) ≡ Some NoThread
unfolding cores_build core_file_computes
no_thread = refl

segment_first : core_fault (core_of (noted (replicate 11 0) ∷ load 6 (2 ^ 64 - 3) 4 (1 ∷ 2 ∷ 3 ∷ 4 ∷ []) ∷ [])) ≡ Some (BadSegment 1)
unfolding cores_build core_file_computes
segment_first = refl
