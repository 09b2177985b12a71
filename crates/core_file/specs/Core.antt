-- A core file of Linux x86-64: its first fault, or its memory, its threads and its modules.
use Rattle.std.specs.Prelude.{ℕ, Bool, not, List, Option, None, Some, Result, Ok, Err}
use Rattle.std.specs.List.{list_any}
use Rattle.std.specs.Option.{option_or}
use Rattle.sym_edges.specs.Results.{fault_if}
use Rattle.core_file.specs.CoreHeader.{header_fault}
use Rattle.core_file.specs.Segments.{segments, segment_fault}
use Rattle.core_file.specs.CoreNotes.{note_fault, all_notes, is_prstatus}
use Rattle.core_file.specs.Threads.{threads_in}
use Rattle.core_file.specs.MappedFiles.{files_in}
use Rattle.core_file.specs.Memory.{Memory}
use Rattle.core_file.specs.Modules.{modules_in}
use Rattle.core_file.specs.declared.threads.Thread.{Thread}
use Rattle.core_file.specs.declared.modules.Module.{Module}
use Rattle.core_file.specs.declared.fault.CoreFault.{CoreFault}
use Rattle.core_file.specs.declared.fault.CoreFault.TheVariants.{NoThread}

-- no note has the state of a thread
unfoldable pub has_no_thread : List ℕ → Bool
has_no_thread file = not (list_any is_prstatus (all_notes file (segments file)))

-- the first fault: of the header, of a segment, of a note, and last that there is no thread
unfoldable pub core_fault : List ℕ → Option CoreFault
core_fault file = option_or (header_fault file) (option_or (segment_fault file) (option_or (note_fault file)
    (fault_if (has_no_thread file) NoThread None)))

-- the memory: the bytes and the segments of the file
unfoldable pub memory_of : List ℕ → Memory
memory_of file = record { file = file; segments = segments file }

-- a core: its memory; its threads, of which the first is the one that crashed; and its modules
pub record CoreParts : Type 0 where
  pub memory : Memory
  pub threads : List Thread
  pub modules : List Module

-- the parts of a file, with at most `limit` threads and at most `limit` modules
unfoldable pub parts_upto : ℕ → List ℕ → CoreParts
parts_upto limit file = record {
  memory = memory_of file;
  threads = threads_in limit (all_notes file (segments file));
  modules = modules_in limit (memory_of file) (files_in (all_notes file (segments file)));
}

-- at most 65,536 threads and at most 65,536 modules are read; further ones are ignored
unfoldable pub parts_of : List ℕ → CoreParts
parts_of file = parts_upto 65536 file

abbrev pub core_by : Option CoreFault → CoreParts → Result CoreParts CoreFault
core_by None parts = Ok parts
core_by (Some fault) parts = Err fault

-- the core of a file: its first fault, or its parts
unfoldable pub core : List ℕ → Result CoreParts CoreFault
core file = core_by (core_fault file) (parts_of file)
