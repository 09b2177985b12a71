use Rattle.std.proofs.Common.{◌∙◌}
use Rattle.cfi_eval.proofs.FinderLemmas.{map_is}
use Rattle.cfi_eval.proofs.memory.finder_of.Goals as goal

pub returns : goal.returns
returns c = map_is c.args.runs.now c.as_slice.result.now c.in_ok-map.map (c.as_slice.ensures.value ∙ c.in_ok-stretches.ensures.same) c.in_ok-map.ensures
