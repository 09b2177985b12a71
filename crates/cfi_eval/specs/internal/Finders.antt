-- How the last run of memory that contains an address is found.
use Rattle.std.specs.Prelude.{◌≡◌, ℕ, zero, suc, ◌+◌, ◌-◌, ◌<◌, ◌^◌, ◌==◌, min, true, if◌then◌else◌, List, [], ◌∷◌, ◌++◌, length, slice_get, Option, None}
use Rattle.std.specs.Option.{option_map_or, option_and_then}
use Rattle.step_maps.specs.Stepping.{Stepping, value_at}
use Rattle.step_maps.specs.declared.stretch.Stretch.{Stretch}
use Rattle.step_maps.specs.declared.stretch.FirstItem.{FirstItem}
use Rattle.cfi_eval.specs.declared.memory.MemRun.{MemRun}
use Rattle.cfi_eval.specs.declared.memory.Finder.{Finder}
use Rattle.cfi_eval.specs.declared.memory.Finder.TheVariants.{Rising, Map, Scan}
use Rattle.cfi_eval.specs.Bytes.{byte_at}
use Rattle.cfi_eval.specs.internal.Rising.{rise_from, byte_in}

-- the stretch of addresses of run number n, which ends at 2^64 - 1 at the latest; none if the run
-- is empty
abbrev pub run_stretch : ℕ → MemRun → List Stretch
run_stretch n run = if length run.bytes == 0 then [] else record { first = run.start; last = min (run.start + (length run.bytes - 1)) (2 ^ 64 - 1); index = n; class = 0 } ∷ []

-- the stretches of the first n runs, with that of the last run first
abbrev pub stretches_to : ℕ → List MemRun → List Stretch
stretches_to zero runs = []
stretches_to (suc n) runs = option_map_or (run_stretch n) (slice_get runs n) [] ++ stretches_to n runs

-- the byte at an address in the run with this index
abbrev pub byte_of : ℕ → List MemRun → ℕ → Option ℕ
byte_of a runs place = option_and_then (byte_in a) (slice_get runs place)

-- for each address, the map gives the run that has the byte at this address
abbrev pub IsRunMap : List MemRun → Stepping (Option FirstItem) → Type 0
IsRunMap runs map = (a : ℕ) → a < 2 ^ 64 → option_and_then (λ (item : FirstItem). byte_of a runs item.index) (value_at None map a) ≡ byte_at runs a

abbrev pub IsFinder : List MemRun → Finder → Type 0
IsFinder runs Rising = rise_from 0 runs ≡ true
IsFinder runs (Map map) = IsRunMap runs map
IsFinder runs Scan = Unit {0}
