-- The paths of a piece's lines, as they are noted from one stop of a line table to the next.
use Rattle.std.specs.Prelude.{◌≡◌, ℕ, Bool, false, ◌||◌, List, map, Option, None, Some}
use Rattle.std.specs.Str.{bytes_eq}
use Rattle.step_maps.specs.Runs.{IsRuns, between}
use Rattle.line_program.specs.LineMaps.{LineMap, numbered_line, named_line}
use Rattle.debug_units.specs.declared.unit_read.UnitRead.{UnitRead}
use Rattle.func_flatten.specs.declared.piece.Piece.{Piece}
use Rattle.func_flatten.specs.declared.line_run.LineRun.{LineRun}
use Rattle.func_flatten.specs.LineRuns.{path_run, unit_paths, AreStarted, AreLineRuns}
use Rattle.func_flatten.specs.internal.Growing.{Walks}
use Rattle.func_records.specs.FuncRecords.{path_in}
use Rattle.func_records.specs.declared.path_list.PathRef.{PathRef}
use Rattle.func_records.specs.internal.Gathering.{has_path, any_run}

-- there is a line and it has the path
abbrev pub has_line : List UnitRead → ℕ → Option (ℕ × ℕ) → List ℕ → Bool
has_line units unit None path = false
has_line units unit (Some m) path = bytes_eq path (path_in units unit m.0)

-- the new paths are the old ones and those of the runs up to an address. The path of the line from that address on may be there, too
pub record Noting (table : LineMap) (unit start end : ℕ) (now : Option (ℕ × ℕ)) (rest : List ℕ) (old new : List PathRef) : Type 0 where
  pub reached : ℕ
  pub lines : List LineRun
  pub walks : Walks table.paths (numbered_line table) start end reached now rest lines
  pub same : (units : List UnitRead) (path : List ℕ) → unit_paths units unit ≡ table.paths → (has_path units new path || has_line units unit now path) ≡ ((has_path units old path || any_run units unit lines path) || has_line units unit now path)

-- the new paths are the old ones and those of a line table's runs between two addresses
pub record Noted (table : LineMap) (unit start end : ℕ) (old new : List PathRef) : Type 0 where
  pub lines : List LineRun
  pub runs : IsRuns (between start end (λ a. named_line table.paths (numbered_line table a))) (map (path_run table.paths) lines)
  pub starts : AreStarted (numbered_line table) lines
  pub same : (units : List UnitRead) (path : List ℕ) → unit_paths units unit ≡ table.paths → has_path units new path ≡ (has_path units old path || any_run units unit lines path)

-- the new paths are the old ones and those of a piece's runs
pub record AddsLines (units : List UnitRead) (piece : Piece) (old new : List PathRef) : Type 0 where
  pub lines : List LineRun
  pub runs : AreLineRuns units piece lines
  pub same : (path : List ℕ) → has_path units new path ≡ (has_path units old path || any_run units piece.unit lines path)
