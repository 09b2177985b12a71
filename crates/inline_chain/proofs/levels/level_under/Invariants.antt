use Rattle.std.proofs.Common.{◌≡◌, ℕ, ◌||◌, length}
use Rattle.std.specs.List.{list_any}
use Rattle.step_maps.specs.SpanStretches.{AreFit}
use Rattle.inline_chain.specs.internal.Levels.{has_at, reaches_under}
use Rattle.inline_chain.proofs.levels.level_under.Given as goal

abbrev pub invariant-level : goal.invariant-level
invariant-level l = record {
  fit : AreFit l.next.items;
  left : AreFit l.rest;
  at : (y a : ℕ) → (has_at l.next.items y a || list_any (reaches_under l.lists y a) l.rest) ≡ list_any (reaches_under l.lists y a) l.level;
}

abbrev pub decreases-level : goal.decreases-level
decreases-level l = length l.rest
