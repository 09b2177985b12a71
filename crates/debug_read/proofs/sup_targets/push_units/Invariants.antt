use Rattle.std.proofs.Common.{◌≡◌, ◌++◌, take}
use Rattle.std.specs.List.{flat_map}
use Rattle.debug_read.specs.internal.Targets.{unit_targets}
use Rattle.debug_read.proofs.sup_targets.push_units.Given as goal

abbrev pub invariant-units : goal.invariant-units
invariant-units l = l.places.items ≡ l.fn.places.items ++ flat_map unit_targets (take l.unit-index l.units)
