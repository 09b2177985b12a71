use Rattle.std.proofs.Common.{◌≡◌, ◌++◌, ◌-◌, take, drop}
use Rattle.module_stacks.specs.Walking.{known_found}
use Rattle.stack_text.specs.StacksText.{stack_steps_text}
use Rattle.stack_text.proofs.stacks_text.add_between.Given as goal

abbrev pub invariant-steps : goal.invariant-steps
invariant-steps l =
    l.text ++ stack_steps_text (known_found l.walker.known) l.walker.folder l.walker.core.modules l.number (take (l.end - l.number) (drop l.number l.steps))
    ≡ l.fn.text ++ stack_steps_text (known_found l.walker.known) l.walker.folder l.walker.core.modules l.first (take (l.end - l.first) (drop l.first l.steps))
