use Rattle.std.proofs.Common.{◌≡◌, ℕ, ◌||◌, drop}
use Rattle.std.specs.List.{list_any}
use Rattle.range_set.specs.Members.{holds_any}
use Rattle.func_flatten.specs.Publics.{is_inside}
use Rattle.func_flatten.proofs.uncovered.spans_of.Given as goal

abbrev pub invariant-pieces : goal.invariant-pieces
invariant-pieces l = (a : ℕ) → (holds_any l.spans.items a || list_any (is_inside a) (drop l.k l.pieces)) ≡ list_any (is_inside a) l.pieces
