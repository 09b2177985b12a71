use Rattle.std.proofs.Common.{arith}
use Rattle.range_set.specs.Enclosing.{encloses}
use Rattle.line_program.proofs.SaysLemmas.{of_says, of_map}
use Rattle.line_program.proofs.TableLemmas.{counted_lines}
use Rattle.line_program.proofs.table.LineTable.of.Goals as goal

pub invariant_of-result : goal.invariant_of-result
invariant_of-result c =
    of_map (encloses c.args.code.now) c.lines.inside.sequences.items c.lines.inside.first _ _ _ c.len-count.ensures (omega (arith, c.if-count.false))
    (counted_lines _ _ _ _ _ _ _ c.in_ok-count_sequences.ensures c.as_slice.ensures.value c.in_ok-lines.ensures)

pub returns-clause-says : goal.returns-clause-says
returns-clause-says c =
    of_says (encloses c.args.code.now) c.lines.inside.sequences.items c.lines.inside.first _ _ _ _ c.lines.view_is c.len-count.ensures
    (counted_lines _ _ _ _ _ _ _ c.in_ok-count_sequences.ensures c.as_slice.ensures.value c.in_ok-lines.ensures)
