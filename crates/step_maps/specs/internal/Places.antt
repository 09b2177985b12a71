-- Places in the lists of stops.
use Rattle.std.specs.Prelude.{ℕ, Bool, true, false, ◌<◌, ◌≤◌, length, slice_index, List}

-- true: the first list has a stop at place `i`, and it is not above the stop of the second list at
-- place `j`; false: the same with the lists exchanged
abbrev pub IsNextFirst : Bool → List ℕ → ℕ → List ℕ → ℕ → Type 0
IsNextFirst true xs i ys j = (i < length xs) × (j < length ys → slice_index xs i ≤ slice_index ys j)
IsNextFirst false xs i ys j = (j < length ys) × (i < length xs → slice_index ys j ≤ slice_index xs i)
