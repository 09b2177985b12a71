use Rattle.std.proofs.Common.{drop}
use Rattle.line_program.specs.internal.Painting.{SortedFrom}
use Rattle.line_program.proofs.row_order.are_sorted.Given as goal

abbrev pub invariant-loop-row : goal.invariant-loop-row
invariant-loop-row l = SortedFrom l.last (drop l.row-index l.rows) → SortedFrom 0 l.rows
