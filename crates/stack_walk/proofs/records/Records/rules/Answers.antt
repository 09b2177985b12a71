use Rattle.std.proofs.Common.{◌∙◌, sym}
use Rattle.cfi_eval.proofs.InitLemmas.{init_within}
use Rattle.stack_walk.proofs.records.Records.rules.Goals as goal

pub of-requires-clause-within : goal.of-requires-clause-within
of-requires-clause-within c = init_within _ _ _ _ c.as_slice.ensures.lines (sym (c.init_at.ensures _ c.self.invariant) ∙ c.in-Some.is)
