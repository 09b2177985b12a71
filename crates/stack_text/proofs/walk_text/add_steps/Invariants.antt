use Rattle.std.proofs.Common.{◌≡◌, ◌++◌, drop}
use Rattle.stack_text.specs.WalkText.{steps_text}
use Rattle.stack_text.proofs.walk_text.add_steps.Given as goal

abbrev pub invariant-steps : goal.invariant-steps
invariant-steps l = l.text ++ steps_text l.file l.number (drop l.number l.steps) ≡ l.fn.text ++ steps_text l.file 0 l.steps
