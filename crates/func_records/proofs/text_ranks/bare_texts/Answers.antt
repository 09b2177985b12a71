use Rattle.std.proofs.Common.{arith, refl}
use Rattle.func_records.proofs.TextLemmas.{bare_next}
use Rattle.func_records.proofs.text_ranks.bare_texts.Goals as goal

pub placed-preserved : goal.placed-preserved
placed-preserved c = bare_next c.args.placed.now c.placed.place _ _ _ _ (omega arith) refl c.placed.invariant c.in_ok-push.ensures.items
