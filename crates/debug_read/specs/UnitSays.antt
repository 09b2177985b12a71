-- What a unit of `.debug_info` says: its entries, their addresses, and its line table; or its first fault.
use Rattle.std.specs.Prelude.{ℕ, if◌then◌else◌, List, [], map, Option, None, Some, unwrap_or, Result, Ok}
use Rattle.sym_edges.specs.Addresses.{Range}
use Rattle.sym_edges.specs.Results.{◌>>=◌}
use Rattle.sym_edges.specs.declared.located.Located.{Located}
use Rattle.abbrev_units.specs.declared.fault.DwarfKind.{DwarfKind}
use Rattle.abbrev_units.specs.declared.unit.Unit.{Unit}
use Rattle.abbrev_units.specs.DebugSections.{DebugSections}
use Rattle.abbrev_units.specs.Abbreviations.{abbrevs_of}
use Rattle.die_walk.specs.EntryTable.{DieFields, RootFields, EntryTable, entry_table}
use Rattle.range_lists.specs.EntryRanges.{unit_base, pairs_of}
use Rattle.line_program.specs.LineAt.{Lines}
use Rattle.line_program.specs.LineTables.{unit_lines}
use Rattle.debug_read.specs.Each.{each_of}

-- the entries, the pairs of addresses that each of them gives, and the line table, if there is one
pub record UnitSays : Type 0 where
  pub table : EntryTable
  pub pairs : List (List Range)
  pub lines : Option Lines

-- the line table at the offset that the root gives (DWARF 5, 3.1.1); a missing compilation directory counts as empty
abbrev pub lines_by : DebugSections → RootFields → Option ℕ → Result (Option Lines) (Located DwarfKind)
lines_by sections root None = Ok None
lines_by sections root (Some offset) = unit_lines sections offset root.at (unwrap_or root.comp_dir []) >>= λ lines. Ok (Some lines)

unfoldable pub root_lines : DebugSections → RootFields → Result (Option Lines) (Located DwarfKind)
root_lines sections root = lines_by sections root root.stmt_list

-- no pairs for each entry
abbrev pub no_pairs : List DieFields → List (List Range)
no_pairs dies = map (λ die. []) dies

-- the pairs of addresses that the entries of a unit give. First the base of the unit's range lists
-- is read, and then the ranges entry by entry. The entries of a supplementary file have none (DWARF
-- 5, 7.3.6)
abbrev pub own_pairs : DebugSections → Unit → EntryTable → Result (List (List Range)) (Located DwarfKind)
own_pairs sections unit table = unit_base sections table.root >>= λ base. each_of (pairs_of sections unit table.root base) table.dies

unfoldable pub unit_pairs : DebugSections → Unit → EntryTable → Result (List (List Range)) (Located DwarfKind)
unit_pairs sections unit table = if sections.is_sup then Ok (no_pairs table.dies) else own_pairs sections unit table

-- what a unit says, or its first fault: of its abbreviations, its entries, their addresses, or its line table, in this order
unfoldable pub unit_says : DebugSections → Unit → Result UnitSays (Located DwarfKind)
unit_says sections unit =
    abbrevs_of sections unit >>= λ abbrevs.
    entry_table sections unit abbrevs >>= λ table.
    unit_pairs sections unit table >>= λ pairs.
    root_lines sections table.root >>= λ lines.
    Ok (record { table = table; pairs = pairs; lines = lines })
