use Rattle.std.proofs.Common.{arith}
use Rattle.cfi_eval.proofs.FinderLemmas.{stretches_more}
use Rattle.cfi_eval.proofs.memory.stretches_of.Goals as goal

pub places-preserved : goal.places-preserved
places-preserved c =
    (stretches_more c.args.runs.now c.places.place c.index-runs-place.result c.places.stretches.items c.push_run.new.stretches.items _ (omega arith) (omega arith) c.index-runs-place.is c.places.invariant.0 c.in_ok-push_run.ensures.same, c.in_ok-push_run.ensures.stretches)
