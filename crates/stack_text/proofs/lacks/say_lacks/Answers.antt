use Rattle.std.proofs.Common.{arith}
use Rattle.module_stacks.specs.Walking.{known_found}
use Rattle.stack_text.proofs.StacksTextLemmas.{lacks_said, lacks_all}
use Rattle.stack_text.proofs.lacks.say_lacks.Goals as goal

pub steps-preserved : goal.steps-preserved
steps-preserved c = λ lines has. lacks_said (known_found c.args.walker.now.known) c.args.walker.now.folder c.args.walker.now.core.modules c.args.steps.now c.steps.step-index c.step-item.result _ lines (omega (arith, c.steps-test.true)) c.step-item.is
    (c.in_ok-say_lack.ensures _ (c.steps.invariant lines has))

pub returns : goal.returns
returns c = λ lines has. lacks_all (known_found c.args.walker.now.known) c.args.walker.now.folder c.args.walker.now.core.modules c.args.steps.now c.steps.step-index _ lines (omega (arith, c.steps-test.false)) (c.steps.invariant lines has)
