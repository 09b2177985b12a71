use Rattle.std.proofs.Common.{take}
use Rattle.func_records.specs.internal.Origins.{all_names, RefsSay}
use Rattle.func_records.proofs.origin_refs.gather_refs.Given as goal

abbrev pub invariant-pieces : goal.invariant-pieces
invariant-pieces l = RefsSay l.units l.origins (all_names l.units (take l.place l.pieces) (take l.place l.held))
