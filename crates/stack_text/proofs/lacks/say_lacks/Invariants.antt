use Rattle.std.proofs.Common.{◌++◌, ℕ, List, take}
use Rattle.std.specs.List.{flat_map}
use Rattle.module_stacks.specs.Symbols.{holder_of}
use Rattle.module_stacks.specs.Walking.{known_found}
use Rattle.stack_text.specs.StacksText.{lack_in}
use Rattle.stack_text.specs.internal.SaidLines.{HasSaid}
use Rattle.stack_text.proofs.lacks.say_lacks.Given as goal

abbrev pub invariant-steps : goal.invariant-steps
invariant-steps l = (lines : List (List ℕ)) → HasSaid l.fn.said lines → HasSaid l.said (lines ++ flat_map (λ s. lack_in (known_found l.walker.known) l.walker.folder (holder_of l.walker.core.modules s.at)) (take l.step-index l.steps))
