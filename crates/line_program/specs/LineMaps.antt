-- The model of a line table in contracts: the lines as a step map, and the paths of the files.
use Rattle.std.specs.Prelude.{◌≡◌, ◌≢◌, ℕ, ◌-◌, ◌^◌, ◌<◌, ◌≤◌, ◌⊎◌, ◌==◌, nat_lt, Bool, if◌then◌else◌, List, [], ◌∷◌, length, Option, Some, None, option_and_then, unwrap_or}
use Rattle.std.specs.List.{slice_get}
use Rattle.std.specs.Option.{option_map}
use Rattle.sym_edges.specs.Addresses.{Range}
use Rattle.range_set.specs.Enclosing.{encloses}
use Rattle.step_maps.specs.Stepping.{Stepping, value_at}
use Rattle.line_program.specs.declared.path_line.PathLine.{PathLine}
use Rattle.line_program.specs.LineAt.{Lines, path_of, line_at}

-- the lines of a table by address, each with the number of its path; the number of the first file;
-- and the paths of the files in their order. They are numbered from 0, and several may be equal
pub record LineMap : Type 0 where
  pub lines : Stepping PathLine
  pub first : ℕ
  pub paths : List (List ℕ)

-- no line and no file
abbrev pub no_lines : LineMap
no_lines = record { lines = record { stops = []; values = [] }; first = 0; paths = [] }

-- no line
abbrev pub no_line : PathLine
no_line = record { path = 0; line = 0 }

-- path number and line of an address, if it has a line
abbrev pub shown : PathLine → Option (ℕ × ℕ)
shown at = if at.line == 0 then None else Some (at.path, at.line)

abbrev pub numbered_line : LineMap → ℕ → Option (ℕ × ℕ)
numbered_line table a = shown (value_at no_line table.lines a)

-- of files that are numbered from `first` on, the number from 0 on, if there is such a file
abbrev pub file_number : ℕ → ℕ → ℕ → Option ℕ
file_number first count file = if nat_lt file first then None else if nat_lt (file - first) count then Some (file - first) else None

-- the number of a file's path, if the table has a file with that number
abbrev pub numbered_file : LineMap → ℕ → Option ℕ
numbered_file table file = file_number table.first (length table.paths) file

-- each line has the number of a path
abbrev pub AreNamed : Stepping PathLine → List (List ℕ) → Type 0
AreNamed lines paths = (a : ℕ) → a < 2 ^ 64 → (value_at no_line lines a).line ≢ 0 → (value_at no_line lines a).path < length paths

-- the path with a number
abbrev pub path_numbered : LineMap → ℕ → List ℕ
path_numbered table number = unwrap_or (slice_get table.paths number) []

-- path and line, given path number and line
abbrev pub named_line : List (List ℕ) → Option (ℕ × ℕ) → Option (List ℕ × ℕ)
named_line paths None = None
named_line paths (Some at) = option_map (λ path. (path, at.1)) (slice_get paths at.0)

-- `table` is the model of `lines`. At each address below 2^64 both give the same path and line, and
-- the files and their paths are the same
pub record SaysLines (code : ℕ → ℕ → Bool) (lines : Lines) (table : LineMap) : Type 0 where
  pub line : (a : ℕ) → a < 2 ^ 64 → named_line table.paths (numbered_line table a) ≡ line_at code lines a
  pub file : (file : ℕ) → option_and_then (slice_get table.paths) (numbered_file table file) ≡ path_of lines.first lines.files file
  pub paths : table.paths ≡ lines.files

-- two lists of ranges enclose the same ranges
abbrev pub EncloseAlike : List Range → List Range → Type 0
EncloseAlike xs ys = (start end : ℕ) → encloses xs start end ≡ encloses ys start end

-- no stop is above the address `a` and at or below the address `b`
abbrev pub NoStopBetween : ℕ → ℕ → List ℕ → Type 0
NoStopBetween a b [] = Unit {0}
NoStopBetween a b (s ∷ stops) = ((s ≤ a) ⊎ (b < s)) × NoStopBetween a b stops
