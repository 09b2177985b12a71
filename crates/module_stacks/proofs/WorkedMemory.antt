-- Worked examples of the memory of cores as runs: segments that overlap, and a file that is cut.
use Rattle.std.proofs.Common.{◌≡◌, ℕ, [], ◌∷◌, Some, None, refl}
use Rattle.cfi_eval.specs.Bytes.{byte_at, word_at}
use Rattle.core_file.specs.declared.segments.Segment.{Segment}
use Rattle.core_file.specs.Memory.{Memory}
use Rattle.module_stacks.specs.CoreRuns.{core_runs}
use Rattle.module_stacks.proofs.Computing.{module_stacks_computes}

-- A segment: p_type, p_offset, p_vaddr and p_filesz.
abbrev segment : ℕ → ℕ → ℕ → ℕ → Segment
segment kind offset address size = record { kind = kind; flags = 4; offset = offset; address = address; file_size = size; memory_size = size }

-- If two segments give an address a byte, the first one counts; its run is the last. A note is no
-- memory.
unfoldable over : Memory
over = record {
  file = 1 ∷ 2 ∷ 3 ∷ 4 ∷ 5 ∷ 6 ∷ 7 ∷ 8 ∷ 9 ∷ 10 ∷ 11 ∷ 12 ∷ [];
  segments = segment 1 0 0x1004 4 ∷ segment 4 0 0x1000 12 ∷ segment 1 4 0x1000 8 ∷ [];
}

both_runs : core_runs over ≡ record { start = 0x1000; bytes = 5 ∷ 6 ∷ 7 ∷ 8 ∷ 9 ∷ 10 ∷ 11 ∷ 12 ∷ [] } ∷ record { start = 0x1004; bytes = 1 ∷ 2 ∷ 3 ∷ 4 ∷ [] } ∷ []
unfolding module_stacks_computes over
both_runs = refl

first_counts : byte_at (core_runs over) 0x1004 ≡ Some 1
unfolding module_stacks_computes over
first_counts = refl

second_before : byte_at (core_runs over) 0x1003 ≡ Some 8
unfolding module_stacks_computes over
second_before = refl

of_both : word_at (core_runs over) 0x1000 ≡ Some 0x0403020108070605
unfolding module_stacks_computes over
of_both = refl

-- A file that is cut has the bytes that are there.
unfoldable cut : Memory
cut = record { file = 1 ∷ 2 ∷ 3 ∷ []; segments = segment 1 1 0x2000 8 ∷ segment 1 9 0x3000 4 ∷ [] }

cut_runs : core_runs cut ≡ record { start = 0x3000; bytes = [] } ∷ record { start = 0x2000; bytes = 2 ∷ 3 ∷ [] } ∷ []
unfolding module_stacks_computes cut
cut_runs = refl

still_there : byte_at (core_runs cut) 0x2001 ≡ Some 3
unfolding module_stacks_computes cut
still_there = refl

cut_off : byte_at (core_runs cut) 0x2002 ≡ None
unfolding module_stacks_computes cut
cut_off = refl
