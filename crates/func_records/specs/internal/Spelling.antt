-- The records of functions, as they are spelled.
use Rattle.std.specs.Prelude.{◌≡◌, ℕ, ◌<◌, ◌^◌, ◌-◌, if◌then◌else◌, List, [], map, length, unwrap_or}
use Rattle.std.specs.List.{slice_get, list_any}
use Rattle.std.specs.List.Sorted.{IsStrictlySortedBy}
use Rattle.std.proofs.Common.{Bor}
use Rattle.std.specs.Str.{bytes_eq}
use Rattle.sym_records.specs.declared.line.SymLine.{SymLine}
use Rattle.sym_records.specs.declared.line.SymLine.TheVariants.{Line}
use Rattle.debug_units.specs.declared.unit_read.UnitRead.{UnitRead}
use Rattle.func_flatten.specs.declared.line_run.LineRun.{LineRun}
use Rattle.func_records.specs.FuncRecords.{number_in}
use Rattle.func_records.specs.declared.path_numbers.NumberedPath.{NumberedPath}
use Rattle.func_records.specs.internal.Texts.{text_cmp}

-- the number of a path in use, and 0 for other paths
abbrev pub number_or_0 : List (List ℕ) → List ℕ → ℕ
number_or_0 paths path = if list_any (bytes_eq path) paths then number_in paths path else 0

-- the numbers of the paths of each unit
abbrev pub unit_numbers : List (List ℕ) → List UnitRead → List (List ℕ)
unit_numbers paths units = map (λ (u : UnitRead). map (number_or_0 paths) u.lines.paths) units

-- texts in ascending order, each once; their numbers fit into 32 bits
pub record CanNumber (texts : List (Bor (List ℕ))) : Type 0 where
  pub sorted : IsStrictlySortedBy text_cmp texts
  pub few : length texts < 2 ^ 32

-- a line record, given the numbers of the unit's paths
abbrev pub line_by : ℕ → List ℕ → LineRun → SymLine
line_by base row r = Line (r.start - base) (r.end - r.start) r.line (unwrap_or (slice_get row r.path) 0)

abbrev pub row_of : List (List ℕ) → ℕ → List ℕ
row_of rows unit = unwrap_or (slice_get rows unit) []

-- a path of a unit has the FILE number that is in the unit's row, or 0
abbrev pub IsNumbered : List (List ℕ) → NumberedPath → Type 0
IsNumbered rows one = one.number ≡ unwrap_or (slice_get (row_of rows one.unit) one.path) 0
