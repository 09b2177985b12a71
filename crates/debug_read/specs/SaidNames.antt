-- The names of entries, and the paths of calls, from what DWARF says of each unit (DWARF 5, 2.15, 3.3.8 and 6.2.4).
use Rattle.std.specs.Prelude.{ℕ, List, map, Option, None, Some, unwrap_or, option_and_then, codes}
use Rattle.std.specs.List.{slice_get}
use Rattle.line_program.specs.LineAt.{path_of}
use Rattle.debug_units.specs.declared.unit_read.UnitRead.{UnitRead}
use Rattle.debug_units.specs.EntriesAlone.{with_entries}
use Rattle.die_names.specs.Names.{entry_name}
use Rattle.debug_read.specs.UnitSays.{UnitSays}
use Rattle.debug_read.specs.SaidOwners.{SaidEntry}

-- a unit with its entries only
abbrev pub said_entries_alone : UnitSays → UnitRead
said_entries_alone says = with_entries says.table

-- the name of an entry, from the entries of the units
unfoldable pub said_name : List UnitSays → ℕ → ℕ → List ℕ
said_name units unit entry = entry_name (map said_entries_alone units) unit entry

-- the path of the file with a number, if the unit has a line table and the table has the file
abbrev pub said_file_in : ℕ → Option UnitSays → Option (List ℕ)
said_file_in file None = None
said_file_in file (Some says) = option_and_then (λ lines. path_of lines.first lines.files file) says.lines

-- the path of the file that DW_AT_call_file of an inlined copy names (3.3.8.2), in the line table of its unit
unfoldable pub said_call_path : List UnitSays → SaidEntry → List ℕ
said_call_path units e = unwrap_or (option_and_then (λ file. said_file_in file (slice_get units e.unit)) e.die.call_file) (codes "<name omitted>")
