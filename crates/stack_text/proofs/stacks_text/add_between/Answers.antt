use Rattle.std.proofs.Common.{arith}
use Rattle.module_stacks.specs.Walking.{known_found}
use Rattle.stack_text.proofs.StacksTextLemmas.{between_more, between_all}
use Rattle.stack_text.proofs.stacks_text.add_between.Goals as goal

pub steps-preserved : goal.steps-preserved
steps-preserved c = between_more (known_found c.args.walker.now.known) _ _ _ _ _ c.index-steps-number.result _ _ _ (omega (arith, c.steps-test.true)) c.requires.within c.index-steps-number.is c.steps.invariant c.in_ok-add_step.ensures

pub returns : goal.returns
returns c = between_all (known_found c.args.walker.now.known) _ _ _ _ _ _ _ (omega (arith, c.steps-test.false)) c.steps.invariant
