use Rattle.std.proofs.Common.{◌≡◌, ◌++◌, length, reverse}
use Rattle.std.specs.List.{flat_map}
use Rattle.sym_records.specs.Spelled.{text_bytes}
use Rattle.func_records.proofs.speller.join_shares.Given as goal

abbrev pub invariant-shares : goal.invariant-shares
invariant-shares l = text_bytes l.text ++ flat_map text_bytes (reverse l.left.items) ≡ text_bytes l.fn.front ++ flat_map text_bytes l.fn.shares.items

abbrev pub decreases-shares : goal.decreases-shares
decreases-shares l = length l.left.items
