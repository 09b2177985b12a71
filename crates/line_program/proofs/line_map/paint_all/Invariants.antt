use Rattle.line_program.proofs.PaintLemmas.{PaintsAll}
use Rattle.line_program.proofs.line_map.paint_all.Given as goal

abbrev pub invariant-loop-place : goal.invariant-loop-place
invariant-loop-place l = PaintsAll l.painter.kept.now l.stops l.items l.painter.first l.painter.files l.painted l.place
