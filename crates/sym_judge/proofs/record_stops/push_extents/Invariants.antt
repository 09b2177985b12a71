use Rattle.std.proofs.Common.{◌≡◌, ◌++◌, drop}
use Rattle.std.specs.List.{flat_map}
use Rattle.sym_judge.specs.internal.Stops.{extent_stops, doubted}
use Rattle.sym_judge.proofs.record_stops.push_extents.Given as goal

abbrev pub invariant-extents : goal.invariant-extents
invariant-extents l = l.stops.items ++ doubted l.doubts (flat_map extent_stops (drop l.at l.extents)) ≡ l.initial.stops.items ++ doubted l.doubts (flat_map extent_stops l.extents)
