use Rattle.std.proofs.Common.{◌≡◌, drop}
use Rattle.line_program.specs.LineAt.{least_address}
use Rattle.line_program.proofs.SortLemmas.{least_of}
use Rattle.line_program.proofs.row_order.least_address.Given as goal

abbrev pub invariant-loop-row : goal.invariant-loop-row
invariant-loop-row l = least_of l.least (least_address (drop l.row-index l.rows)) ≡ least_address l.rows
