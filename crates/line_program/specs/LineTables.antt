-- A whole line table of `.debug_line` (DWARF 5, 6.2).
use Rattle.std.specs.Prelude.{ℕ, nat_lt, Bool, if◌then◌else◌, List, ◌++◌, length, drop, map, Result, Ok, Err}
use Rattle.sym_edges.specs.declared.part.Sect.TheVariants.{Info, Line}
use Rattle.sym_edges.specs.Results.{◌>>=◌}
use Rattle.leb_cursor.specs.Ahead.{Ahead}
use Rattle.abbrev_units.specs.declared.fault.DwarfKind.TheVariants.{OffsetOutside}
use Rattle.abbrev_units.specs.Faults.{as_header}
use Rattle.abbrev_units.specs.DebugSections.{DebugSections}
use Rattle.line_program.specs.Faults.{Fault}
use Rattle.line_program.specs.FileTables.{Tables, tables_at}
use Rattle.line_program.specs.Headers.{table_at}
use Rattle.line_program.specs.LineAt.{Lines}
use Rattle.line_program.specs.LineMaps.{LineMap, SaysLines}
use Rattle.line_program.specs.LineRows.{State, line_rows}
use Rattle.line_program.specs.Paths.{directories_of, file_path, first_file}
use Rattle.line_program.specs.ProgramFields.{ProgramFields}

-- the content of a line table, given the tables of its header and the state after its program; files that the program defined come last
unfoldable pub lines_of : List ℕ → ℕ → Tables → State → Lines
lines_of comp_dir version tables state = record {
  sequences = state.sequences;
  first = first_file version;
  files = map (file_path (directories_of version comp_dir tables.directories)) (tables.files ++ state.files);
}

-- the content of a line table, given the tables of its header and the bytes of its program
abbrev pub program_lines : List ℕ → ProgramFields → Tables → Ahead → Result Lines Fault
program_lines comp_dir p tables c = line_rows p c >>= λ state. Ok (lines_of comp_dir p.version tables state)

-- the line table at the start of the bytes ahead, for a unit with the compilation directory
-- `comp_dir`
unfoldable pub lines_at : DebugSections → List ℕ → Ahead → Result Lines Fault
lines_at sections comp_dir c =
    as_header Line c.at (table_at c) >>= λ header.
    tables_at sections c.at header >>= λ tables.
    program_lines comp_dir header.program tables header.opcodes

-- the line table at the offset that a unit's root gives; the root is at `place`
unfoldable pub unit_lines : DebugSections → ℕ → ℕ → List ℕ → Result Lines Fault
unit_lines sections offset place comp_dir =
    if nat_lt (length sections.line) offset then Err (record { kind = OffsetOutside; section = Info; at = place }) else
    lines_at sections comp_dir (record { bytes = drop offset sections.line; at = offset })

-- `table` is the model of the line table that was read
abbrev pub Says : (ℕ → ℕ → Bool) → Result Lines Fault → LineMap → Type 0
Says code (Ok lines) table = SaysLines code lines table
Says code (Err fault) table = ⊥
