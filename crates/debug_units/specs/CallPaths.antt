-- The paths of files and calls, from the line tables of units (DWARF 5, 3.3.8.2 and 6.2.4).
use Rattle.std.specs.Prelude.{ℕ, List, Option, None, Some, unwrap_or, option_and_then, codes}
use Rattle.std.specs.List.{slice_get}
use Rattle.die_walk.specs.EntryTable.{DieFields}
use Rattle.line_program.specs.LineMaps.{LineMap, numbered_file}
use Rattle.debug_units.specs.declared.unit_read.UnitRead.{UnitRead}

-- the text in place of a missing path
unfoldable pub no_path : List ℕ
no_path = codes "<name omitted>"

-- the path of the file with a number, if the line table has that file
abbrev pub file_path : LineMap → ℕ → Option (List ℕ)
file_path table file = option_and_then (slice_get table.paths) (numbered_file table file)

abbrev pub file_path_in : ℕ → Option UnitRead → Option (List ℕ)
file_path_in file None = None
file_path_in file (Some part) = file_path part.lines file

-- the path of the file that DW_AT_call_file of an inlined copy names (DWARF 5, 3.3.8.2), in the line table of unit `unit`
unfoldable pub path_of_call : List UnitRead → ℕ → DieFields → List ℕ
path_of_call units unit die = unwrap_or (option_and_then (λ file. file_path_in file (slice_get units unit)) die.call_file) no_path
