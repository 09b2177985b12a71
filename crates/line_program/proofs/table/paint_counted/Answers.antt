use Rattle.line_program.proofs.TableLemmas.{several_lines}
use Rattle.line_program.proofs.table.paint_counted.Goals as goal

pub returns : goal.returns
returns c =
    several_lines _ _ _ _ _ _ _ _ _ c.in_ok-put_stretches.ensures.same c.as_slice.ensures.value c.in_ok-covers.ensures c.stops.ensures.same c.values.ensures.same c.in_ok-lines.ensures
