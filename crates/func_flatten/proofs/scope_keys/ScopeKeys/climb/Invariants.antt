use Rattle.std.proofs.Common.{◌≡◌, ◌++◌}
use Rattle.func_flatten.specs.internal.ScopeFronts.{unit_dies, outer}
use Rattle.func_flatten.proofs.scope_keys.ScopeKeys.climb.Given as goal

abbrev pub invariant-around : goal.invariant-around
invariant-around l = l.numbers.items ++ outer (unit_dies l.units l.unit) l.at ≡ outer (unit_dies l.units l.unit) l.entry

abbrev pub decreases-around : goal.decreases-around
decreases-around l = l.at
