use Rattle.std.proofs.Common.{◌≡◌, ◌++◌, length, reverse}
use Rattle.std.specs.List.{flat_map}
use Rattle.func_records.proofs.names.join_names.Given as goal

abbrev pub invariant-shares : goal.invariant-shares
invariant-shares l = l.texts.items ++ flat_map (λ one. one.items) (reverse l.left.items) ≡ flat_map (λ one. one.items) l.fn.shares.items

abbrev pub decreases-shares : goal.decreases-shares
decreases-shares l = length l.left.items
