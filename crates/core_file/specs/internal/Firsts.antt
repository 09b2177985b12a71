-- Which segment gives an address its byte, as a step map.
use Rattle.std.specs.Prelude.{◌≡◌, ℕ, ◌+◌, ◌-◌, ◌^◌, ◌<◌, ◌&&◌, List, [], ◌∷◌, Option, None, find, min, slice_get, nat_lt, option_and_then, if◌then◌else◌}
use Rattle.step_maps.specs.Stepping.{Stepping, value_at}
use Rattle.step_maps.specs.declared.stretch.Stretch.{Stretch}
use Rattle.step_maps.specs.declared.stretch.FirstItem.{FirstItem}
use Rattle.core_file.specs.declared.segments.Segment.{Segment}
use Rattle.core_file.specs.Memory.{present, gives}
use Rattle.core_file.specs.LoadedImages.{is_load}

-- the addresses to which a segment gives bytes, with its number
abbrev pub stretch_of : List ℕ → ℕ → Segment → Stretch
stretch_of file i s = record { first = s.address; last = min (s.address + (present file s - 1)) (2 ^ 64 - 1); index = i; class = 0 }

-- the stretches of the segments that give any bytes; the first segment has the number i
unfoldable pub stretches_of : List ℕ → ℕ → List Segment → List Stretch
stretches_of file i [] = []
stretches_of file i (s ∷ segments) =
    if is_load s && nat_lt 0 (present file s) then stretch_of file i s ∷ stretches_of file (i + 1) segments
    else stretches_of file (i + 1) segments

-- the step map has at each address the number of the first segment that gives it a byte
abbrev pub AreFirsts : List ℕ → List Segment → Stepping (Option FirstItem) → Type 0
AreFirsts file segments steps =
    (a : ℕ) → a < 2 ^ 64 → find (gives file a) segments ≡ option_and_then (λ item. slice_get segments item.index) (value_at None steps a)
