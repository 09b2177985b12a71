use Rattle.std.proofs.Common.{◌≡◌, ℕ, List, take}
use Rattle.func_records.specs.internal.Gathering.{has_path}
use Rattle.func_records.specs.internal.Shares.{all_paths}
use Rattle.func_records.proofs.paths.join_paths.Given as goal

abbrev pub invariant-shares : goal.invariant-shares
invariant-shares l = (path : List ℕ) → has_path l.units l.list path ≡ has_path l.units (all_paths (take l.k l.shares)) path
