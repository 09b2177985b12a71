use Rattle.std.proofs.Common.{◌≡◌, ◌++◌, None, length}
use Rattle.step_maps.specs.internal.Joining.{covers_from}
use Rattle.step_maps.proofs.joins.joined_covers.Given as goal

abbrev pub invariant-stops : goal.invariant-stops
invariant-stops l = l.covers.items ++ covers_from l.first l.now l.stops_left l.values_left ≡ covers_from 0 None l.stops l.values

abbrev pub decreases-stops : goal.decreases-stops
decreases-stops l = length l.stops_left
