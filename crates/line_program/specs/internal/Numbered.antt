-- The lines of rows, with numbers instead of paths.
use Rattle.std.specs.Prelude.{ℕ, ◌==◌, Bool, if◌then◌else◌, List, Option, Some, None}
use Rattle.line_program.specs.declared.row.Row.{Row}
use Rattle.line_program.specs.declared.path_line.PathLine.{PathLine}
use Rattle.line_program.specs.LineAt.{row_in}
use Rattle.line_program.specs.LineMaps.{no_line, file_number}
use Rattle.line_program.specs.LineRows.{Sequence}

abbrev pub numbered_line_by : ℕ → Option ℕ → PathLine
numbered_line_by line None = no_line
numbered_line_by line (Some path) = if line == 0 then no_line else record { path = path; line = line }

-- path number and line of a row in a table with so many files; line 0 if there is none
abbrev pub numbered_line_of : ℕ → ℕ → Option Row → PathLine
numbered_line_of first count None = no_line
numbered_line_of first count (Some r) = numbered_line_by r.line (file_number first count r.file)

-- path number and line of an address
unfoldable pub numbered_at : (ℕ → ℕ → Bool) → List Sequence → ℕ → ℕ → ℕ → PathLine
numbered_at code sequences first count a = numbered_line_of first count (row_in code sequences a)
