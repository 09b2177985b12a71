use Rattle.std.proofs.Common.{◌≡◌, take}
use Rattle.func_records.specs.internal.Origins.{all_refs}
use Rattle.func_records.proofs.names.join_refs.Given as goal

abbrev pub invariant-shares : goal.invariant-shares
invariant-shares l = l.refs.items ≡ all_refs (take l.k l.shares)
