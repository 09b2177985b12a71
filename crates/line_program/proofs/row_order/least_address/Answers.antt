use Rattle.std.proofs.Common.{◌∙◌, sym, arith}
use Rattle.line_program.proofs.SortLemmas.{least_more, least_all}
use Rattle.line_program.proofs.row_order.least_address.Goals as goal

pub loop-row-preserved : goal.loop-row-preserved
loop-row-preserved c = least_more c.args.rows.now c.loop-row.row-index _ c.loop-row.least c.lesser-least.result (omega arith) c.lesser-least.ensures ∙ c.loop-row.invariant

pub returns : goal.returns
returns c = sym (least_all c.args.rows.now c.loop-row.row-index c.loop-row.least (omega arith)) ∙ c.loop-row.invariant
