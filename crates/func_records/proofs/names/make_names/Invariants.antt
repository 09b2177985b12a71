use Rattle.std.proofs.Common.{◌≡◌, ◌++◌, map, length}
use Rattle.func_records.specs.internal.Origins.{made_name}
use Rattle.func_records.proofs.names.make_names.Given as goal

abbrev pub invariant-refs : goal.invariant-refs
invariant-refs l = l.texts.items ++ map (made_name l.units) l.rest ≡ map (made_name l.units) l.refs

abbrev pub decreases-refs : goal.decreases-refs
decreases-refs l = length l.rest
