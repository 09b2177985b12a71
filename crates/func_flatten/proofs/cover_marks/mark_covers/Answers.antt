use Rattle.std.proofs.Common.{arith}
use Rattle.func_flatten.proofs.ClassLemmas.{mark_next}
use Rattle.func_flatten.proofs.cover_marks.mark_covers.Goals as goal

pub loop-at-preserved : goal.loop-at-preserved
loop-at-preserved c = mark_next c.args.items.now c.loop-at.covers.items c.args.covers.items c.loop-at.at c.index.result.now c.marked.result (omega arith) c.loop-at.invariant c.index.ensures c.marked.ensures
