use Rattle.std.proofs.Common.{subst}
use Rattle.step_maps.specs.Ends.{UpToEnd}
use Rattle.line_program.proofs.PaintLemmas.{piece_last}
use Rattle.line_program.proofs.line_map.paint_piece.Goals as goal

pub returns-in_ok-paint_rows-in-Some-end-clause-last : goal.returns-in_ok-paint_rows-in-Some-end-clause-last
returns-in_ok-paint_rows-in-Some-end-clause-last c =
    piece_last _ _ c.in-Some-end.end c.in-Some-end.is
    (c.in_ok-paint_rows-in-Some-end.ensures.last c.in-Some-end.end (subst (UpToEnd c.args.start) c.in-Some-end.is c.requires.end) c.rows_below-below.ensures.below)
