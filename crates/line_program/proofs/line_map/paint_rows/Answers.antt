use Rattle.std.proofs.Common.{◌∷◌}
use Rattle.std.proofs.lemmas.List.{nil_from_length}
use Rattle.line_program.proofs.PaintLemmas.{Paints, paints_begin, paints_more, paints_end, paints_last}
use Rattle.line_program.proofs.line_map.paint_rows.Goals as goal

pub rows-init : goal.rows-init
rows-init c = paints_begin _ _ _ _ _ _ _ _ c.rows_above.ensures c.in_ok-set.ensures.at c.in_ok-set.ensures.last

pub rows-preserved : goal.rows-preserved
rows-preserved c =
    let p : Paints c.args.first c.args.files c.args.rows.now c.args.painted.now c.args.start c.rows.painted c.rows.now.from c.rows.now.line (c.in-Some.row.now ∷ c.in-Some.after.now)
    = rw c.in-Some.ensures.cases.0 at c.rows.invariant in
    paints_more _ _ _ _ _ _ _ _ _ _ _ _ p c.line_of.ensures c.in_ok-paint_line.ensures.at c.in_ok-paint_line.ensures.last

pub returns-clause-at : goal.returns-clause-at
returns-clause-at c = paints_end _ _ _ _ _ _ _ _ _ c.rows.invariant (nil_from_length _ c.in_default.ensures.cases)

pub returns-clause-last : goal.returns-clause-last
returns-clause-last c = paints_last _ _ _ _ _ _ _ _ _ c.rows.invariant
