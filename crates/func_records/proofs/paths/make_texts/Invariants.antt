use Rattle.std.proofs.Common.{◌≡◌, take, map}
use Rattle.func_records.specs.internal.Gathering.{path_at}
use Rattle.func_records.proofs.paths.make_texts.Given as goal

abbrev pub invariant-refs : goal.invariant-refs
invariant-refs l = l.made ≡ map (path_at l.units) (take l.place l.refs)
