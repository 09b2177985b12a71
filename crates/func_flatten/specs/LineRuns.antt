-- The maximal runs of addresses with one line, from the line table of a unit (DWARF 5, 6.2).
use Rattle.std.specs.Prelude.{◌≡◌, ℕ, List, [], ◌∷◌, Option, None, Some, unwrap_or, map}
use Rattle.std.specs.List.{slice_get}
use Rattle.step_maps.specs.Runs.{Run, IsRuns, between}
use Rattle.line_program.specs.LineMaps.{numbered_line}
use Rattle.debug_units.specs.declared.unit_read.UnitRead.{UnitRead}
use Rattle.debug_units.specs.Owners.{line_in}
use Rattle.func_flatten.specs.declared.line_run.LineRun.{LineRun}
use Rattle.func_flatten.specs.declared.piece.Piece.{Piece}

-- the number of the path and the line of an address, from a unit's line table
abbrev pub number_line_in : ℕ → Option UnitRead → Option (ℕ × ℕ)
number_line_in a None = None
number_line_in a (Some part) = numbered_line part.lines a

unfoldable pub unit_number_line : List UnitRead → ℕ → ℕ → Option (ℕ × ℕ)
unit_number_line units unit a = number_line_in a (slice_get units unit)

-- the path and the line of an address, from a unit's line table
unfoldable pub unit_line : List UnitRead → ℕ → ℕ → Option (List ℕ × ℕ)
unit_line units unit a = line_in a (slice_get units unit)

abbrev pub paths_in : Option UnitRead → List (List ℕ)
paths_in None = []
paths_in (Some part) = part.lines.paths

-- the paths of a unit's table, by their numbers
unfoldable pub unit_paths : List UnitRead → ℕ → List (List ℕ)
unit_paths units unit = paths_in (slice_get units unit)

-- a path and a line, given the path's number
abbrev pub path_line : List (List ℕ) → ℕ × ℕ → List ℕ × ℕ
path_line paths at = (unwrap_or (slice_get paths at.0) [], at.1)

-- a line run with the path and the line as its value
abbrev pub path_run : List (List ℕ) → LineRun → Run (List ℕ × ℕ)
path_run paths r = record { start = r.start; end = r.end; value = path_line paths (r.path, r.line) }

-- each run has the path number and the line of its first address
abbrev pub AreStarted : (ℕ → Option (ℕ × ℕ)) → List LineRun → Type 0
AreStarted f [] = Unit {0}
AreStarted f (r ∷ runs) = (f r.start ≡ Some (r.path, r.line)) × AreStarted f runs

-- the runs of the path and the line in a piece. Since a path may have several numbers, each run has
-- the number at its start
pub record AreLineRuns (units : List UnitRead) (piece : Piece) (runs : List LineRun) : Type 0 where
  pub paths : IsRuns (between piece.start piece.end (unit_line units piece.unit)) (map (path_run (unit_paths units piece.unit)) runs)
  pub starts : AreStarted (unit_number_line units piece.unit) runs
