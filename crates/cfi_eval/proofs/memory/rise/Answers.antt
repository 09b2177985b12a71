use Rattle.std.proofs.Common.{◌∙◌}
use Rattle.cfi_eval.proofs.MemoryLemmas.{rise_not, rise_more, rise_all}
use Rattle.cfi_eval.proofs.memory.rise.Goals as goal

pub returns-then-from-low : goal.returns-then-from-low
returns-then-from-low c = rise_not c.args.runs.now c.runs.run-index c.runs.low c.run-item.result c.from.result c.runs-test.true c.run-item.is c.from.ensures c.if-from-low.true ∙ c.runs.invariant

pub runs-preserved : goal.runs-preserved
runs-preserved c = rise_more c.args.runs.now c.runs.run-index c.runs.low c.run-item.result c.from.result c.from-in-runs.result c.len.result c.runs-test.true c.run-item.is c.from.ensures c.if-from-low.false c.from-in-runs.ensures c.len.ensures ∙ c.runs.invariant

pub returns : goal.returns
returns c = rise_all c.args.runs.now c.runs.run-index c.runs.low c.runs-test.false ∙ c.runs.invariant
