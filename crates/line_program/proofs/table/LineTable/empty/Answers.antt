use Rattle.line_program.proofs.SaysLemmas.{no_line_map}
use Rattle.line_program.proofs.table.LineTable.empty.Goals as goal

pub invariant_of-result : goal.invariant_of-result
invariant_of-result c = no_line_map _ _ c.new.ensures c.none.ensures
