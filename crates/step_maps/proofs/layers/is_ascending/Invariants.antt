use Rattle.std.proofs.Common.{◌≡◌, length}
use Rattle.step_maps.specs.internal.Laying.{ascends, ascends_from}
use Rattle.step_maps.proofs.layers.is_ascending.Given as goal

abbrev pub invariant-items : goal.invariant-items
invariant-items l = ascends l.items ≡ ascends_from l.last l.rest

abbrev pub decreases-items : goal.decreases-items
decreases-items l = length l.rest
