-- The rows that are painted above an address.
use Rattle.std.specs.Prelude.{◌≡◌, ℕ, ◌≤◌, List, Option, None, Some}
use Rattle.line_program.specs.declared.row.Row.{Row}
use Rattle.line_program.specs.declared.path_line.PathLine.{PathLine}
use Rattle.line_program.specs.internal.Numbered.{numbered_line_of}
use Rattle.line_program.specs.internal.Painting.{SortedFrom, AllUpTo, last_at}

-- the line of a row; without a row, `line`
abbrev pub line_or : PathLine → ℕ → ℕ → Option Row → PathLine
line_or line first count None = line
line_or line first count (Some r) = numbered_line_of first count (Some r)

-- the rows above `start`, and the line of the last row at or below `start`
pub record Parts (first count : ℕ) (rows : List Row) (start : ℕ) (line : PathLine) (above : List Row) : Type 0 where
  pub sorted : SortedFrom start above
  pub rest : (a : ℕ) → start ≤ a → line_or line first count (last_at above a) ≡ numbered_line_of first count (last_at rows a)
  pub up_to : (end : ℕ) → AllUpTo end rows → AllUpTo end above
