use Rattle.std.proofs.Common.{◌≡◌, ℕ, List, ◌||◌, take}
use Rattle.debug_units.specs.declared.unit_read.UnitRead.{UnitRead}
use Rattle.func_records.specs.internal.Gathering.{has_path}
use Rattle.func_records.proofs.path_list.PathList.add_all.Given as goal

abbrev pub invariant-refs : goal.invariant-refs
invariant-refs l = (units : List UnitRead) (path : List ℕ) → has_path units l.self path ≡ (has_path units l.fn.self path || has_path units (take l.place l.refs) path)
