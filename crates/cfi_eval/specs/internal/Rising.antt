-- Runs of memory that are ascending and disjoint, in which a byte is found by binary search.
use Rattle.std.specs.Prelude.{ℕ, zero, suc, ◌+◌, ◌-◌, ◌&&◌, nat_le, Bool, true, if◌then◌else◌, List, [], ◌∷◌, length, slice_index, slice_get, Option, None, Some}
use Rattle.std.specs.Option.{option_and_then}
use Rattle.cfi_eval.specs.declared.memory.MemRun.{MemRun}
use Rattle.cfi_eval.specs.Bytes.{holds}

-- the end of a run
abbrev pub end_of : MemRun → ℕ
end_of run = run.start + length run.bytes

-- each run begins at or after the end of the run before it
unfoldable pub rise_from : ℕ → List MemRun → Bool
rise_from low [] = true
rise_from low (run ∷ runs) = nat_le low run.start && rise_from (end_of run) runs

-- the byte at an address in a run
abbrev pub byte_in : ℕ → MemRun → Option ℕ
byte_in a run = if holds a run then Some (slice_index run.bytes (a - run.start)) else None

-- the byte at an address in the last of the first n runs
abbrev pub byte_behind : ℕ → ℕ → List MemRun → Option ℕ
byte_behind zero a runs = None
byte_behind (suc n) a runs = option_and_then (byte_in a) (slice_get runs n)
