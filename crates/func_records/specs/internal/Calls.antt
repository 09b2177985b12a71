-- The calls of inlined copies, by the numbers of their paths.
use Rattle.std.specs.Prelude.{◌≡◌, ℕ, ◌<◌, List, [], ◌∷◌, length, Option, None, Some, option_and_then}
use Rattle.std.specs.List.{slice_get}
use Rattle.line_program.specs.LineMaps.{numbered_file}
use Rattle.debug_units.specs.declared.unit_read.UnitRead.{UnitRead}
use Rattle.debug_units.specs.UnitEntries.{Placed, entry_of}
use Rattle.func_flatten.specs.LineRuns.{unit_paths}
use Rattle.inline_chain.specs.InlineRuns.{InlineParts}
use Rattle.func_records.specs.declared.calls.CallSite.{CallSite}
use Rattle.func_records.specs.FuncRecords.{Part, path_in, call_path, call_line}
use Rattle.debug_units.specs.CallPaths.{no_path}

abbrev pub file_number_in : ℕ → Option UnitRead → Option ℕ
file_number_in file None = None
file_number_in file (Some part) = numbered_file part.lines file

abbrev pub number_by : List UnitRead → ℕ → Placed → Option ℕ
number_by units unit p = option_and_then (λ file. file_number_in file (slice_get units unit)) p.die.call_file

-- the number of a call's path in the table of its unit
unfoldable pub call_number : List UnitRead → ℕ → ℕ → Option ℕ
call_number units unit entry = option_and_then (number_by units unit) (entry_of units unit entry)

-- the path with a number, or the text for an unknown path
abbrev pub path_or : List UnitRead → ℕ → Option ℕ → List ℕ
path_or units unit None = no_path
path_or units unit (Some path) = path_in units unit path

-- the number, if there is one, is in the table
abbrev pub IsPathed : List UnitRead → ℕ → Option ℕ → Type 0
IsPathed units unit None = Unit {0}
IsPathed units unit (Some path) = path < length (unit_paths units unit)

-- the path of a call is the path with its number
pub record IsKnown (units : List UnitRead) (unit entry : ℕ) : Type 0 where
  pub pathed : IsPathed units unit (call_number units unit entry)
  pub path : call_path units unit entry ≡ path_or units unit (call_number units unit entry)

abbrev pub AreKnown : List UnitRead → ℕ → List InlineParts → Type 0
AreKnown units unit [] = Unit {0}
AreKnown units unit (r ∷ copies) = IsKnown units unit r.entry × AreKnown units unit copies

abbrev pub AreAllKnown : List UnitRead → List Part → Type 0
AreAllKnown units [] = Unit {0}
AreAllKnown units (p ∷ parts) = AreKnown units p.piece.unit p.copies × AreAllKnown units parts

-- where an inlined copy is called: the path by its number, and the line
pub record IsSite (units : List UnitRead) (unit entry : ℕ) (site : CallSite) : Type 0 where
  pub number : site.path ≡ call_number units unit entry
  pub line : site.line ≡ call_line units unit entry
  pub known : IsKnown units unit entry
