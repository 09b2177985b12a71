-- A walk after steps that were made before.
use Rattle.std.specs.Prelude.{List, ◌++◌}
use Rattle.stack_walk.specs.declared.steps.WalkStep.{WalkStep}
use Rattle.stack_walk.specs.declared.steps.Walk.{Walk}

abbrev pub behind : List WalkStep → Walk → Walk
behind steps walk = record { steps = steps ++ walk.steps; end = walk.end }
