use Rattle.std.proofs.Common.{length}
use Rattle.line_program.proofs.PaintLemmas.{Paints}
use Rattle.line_program.proofs.line_map.paint_rows.Given as goal

abbrev pub invariant-rows : goal.invariant-rows
invariant-rows l = Paints l.first l.files l.fn.rows l.fn.painted l.start l.painted l.now.from l.now.line l.rest

abbrev pub decreases-rows : goal.decreases-rows
decreases-rows l = length l.rest
