use Rattle.std.proofs.Common.{arith}
use Rattle.step_maps.proofs.LayingLemmas.{halves_laid}
use Rattle.step_maps.proofs.StretchLemmas.{stretches_front, stretches_back}
use Rattle.step_maps.proofs.layers.+halved.Goals as goal

pub halved-requires : goal.halved-requires
halved-requires t c = (omega (arith, c.decreases), stretches_front _ c.split_at.result.1.now (rw c.split_at.ensures.by_index.0 at c.requires))

pub halved-requires-2 : goal.halved-requires-2
halved-requires-2 t c = (omega (arith, c.decreases), stretches_back c.split_at.result.0.now _ (rw c.split_at.ensures.by_index.0 at c.requires))

pub returns : goal.returns
returns t c = halves_laid _ _ _ _ _ _ c.split_at.ensures.by_index.0 c.in_ok-upper.ensures c.in_ok-lower.ensures c.in_ok-both.ensures
