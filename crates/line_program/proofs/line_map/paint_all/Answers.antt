use Rattle.std.proofs.Common.{refl, arith}
use Rattle.line_program.proofs.PaintLemmas.{all_begins, all_more, all_done, piece_ends}
use Rattle.line_program.proofs.line_map.paint_all.Goals as goal

pub loop-place-init : goal.loop-place-init
loop-place-init c = all_begins _ _ _ _ _ _ c.requires c.in_ok-painted.ensures

pub paint_piece-requires-clause-end : goal.paint_piece-requires-clause-end
paint_piece-requires-clause-end c = piece_ends _ _ c.loop-place.place _ c.requires (omega arith) c.next_stop-end.ensures

pub loop-place-preserved : goal.loop-place-preserved
loop-place-preserved c =
    all_more _ _ _ _ _ _ _ _ _ _ _ c.requires (omega arith) c.loop-place.invariant refl c.next_stop-end.ensures c.in_ok-paint_piece.ensures.before c.in_ok-paint_piece.ensures.at c.in_ok-paint_piece.ensures.last

pub returns : goal.returns
returns c = all_done _ _ _ _ _ _ _ _ c.loop-place.invariant (omega arith) c.shrink.ensures
