use Rattle.std.proofs.Common.{◌≡◌, ◌-◌}
use Rattle.stack_walk.specs.Walk.{process_of, walk_from}
use Rattle.stack_walk.specs.internal.Front.{behind}
use Rattle.stack_walk.proofs.descent.walk_from.Given as goal

abbrev pub invariant-steps : goal.invariant-steps
invariant-steps l = behind l.steps.items (walk_from (process_of l.file l.memory) (l.most - l.turn) l.here) ≡ walk_from (process_of l.file l.memory) l.most l.first
