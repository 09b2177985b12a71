-- The memory of a core file as runs of bytes. If several runs contain an address, the last of them counts.
use Rattle.std.specs.Prelude.{ℕ, ◌==◌, List, [], ◌∷◌, ◌++◌, take, drop, if◌then◌else◌}
use Rattle.elf_sections.specs.ElfNumbers.{pt_load}
use Rattle.cfi_eval.specs.declared.memory.MemRun.{MemRun}
use Rattle.core_file.specs.declared.segments.Segment.{Segment}
use Rattle.core_file.specs.Memory.{Memory, present}

-- the bytes of a segment that are in the file, from its address on
unfoldable pub run_of : List ℕ → Segment → MemRun
run_of file s = record { start = s.address; bytes = take (present file s) (drop s.offset file) }

-- the run of a segment, if it is loaded
abbrev pub loaded_run : List ℕ → Segment → List MemRun
loaded_run file s = if s.kind == pt_load then run_of file s ∷ [] else []

-- the runs of segments, in reverse order: if several segments give an address a byte, the first of them counts
unfoldable pub runs_of : List ℕ → List Segment → List MemRun
runs_of file [] = []
runs_of file (s ∷ segments) = runs_of file segments ++ loaded_run file s

-- the runs of the memory of a core file
abbrev pub core_runs : Memory → List MemRun
core_runs memory = runs_of memory.file memory.segments
