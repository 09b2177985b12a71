use Rattle.func_flatten.proofs.LineLemmas.{lines_none, lines_some}
use Rattle.func_flatten.proofs.lines.lines_of.Goals as goal

pub returns-in_default : goal.returns-in_default
returns-in_default c = rw c.clear.ensures.items (lines_none c.args.units.now c.args.piece.now c.in_default.ensures)

pub returns : goal.returns
returns c =
    lines_some c.args.units.now c.args.piece.now c.put_runs.new.runs.items c.in-Some.part.now c.in-Some.ensures
    (rw c.table-table.ensures at c.in_ok-put_runs.ensures.runs, rw c.table-table.ensures at c.in_ok-put_runs.ensures.starts)
