use Rattle.std.proofs.Common.{take, ◌++◌, List, ℕ}
use Rattle.func_records.specs.internal.Origins.{entry_names, RefsSay}
use Rattle.func_records.proofs.origin_refs.OriginRefs.add_copies.Given as goal

abbrev pub invariant-copies : goal.invariant-copies
invariant-copies l = (names : List (List ℕ)) → RefsSay l.units l.fn.self names → RefsSay l.units l.self (names ++ entry_names l.units l.unit (take l.place l.copies))
