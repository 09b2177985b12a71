use Rattle.func_records.proofs.LinePathLemmas.{adds_none, adds_some}
use Rattle.func_records.proofs.line_paths.gather_lines.Goals as goal

pub returns-in_default : goal.returns-in_default
returns-in_default c = adds_none c.args.units.now c.args.piece.now _ c.in_default.ensures

pub returns : goal.returns
returns c = adds_some c.args.units.now c.args.piece.now c.in-Some.part.now _ _ c.in-Some.ensures (rw c.table-table.ensures at c.in_ok-note_lines.ensures)
