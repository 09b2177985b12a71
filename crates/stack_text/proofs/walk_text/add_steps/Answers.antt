use Rattle.std.proofs.Common.{arith}
use Rattle.stack_text.proofs.WalkTextLemmas.{steps_more, steps_all}
use Rattle.stack_text.proofs.walk_text.add_steps.Goals as goal

pub steps-preserved : goal.steps-preserved
steps-preserved c = steps_more _ _ _ _ _ _ _ c.steps.invariant c.index-steps-number.is (omega arith) c.in_ok-add_step.ensures

pub returns : goal.returns
returns c = steps_all _ _ _ _ _ c.steps.invariant (omega arith)
