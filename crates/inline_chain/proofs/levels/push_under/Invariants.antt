use Rattle.std.proofs.Common.{◌≡◌, ℕ, ◌&&◌, ◌||◌, length, map}
use Rattle.step_maps.specs.Runs.{AreRuns}
use Rattle.step_maps.specs.Covers.{reaches, cover_run}
use Rattle.step_maps.specs.SpanStretches.{AreFit}
use Rattle.inline_chain.specs.internal.Levels.{has_at, covers_at, ReachTo}
use Rattle.inline_chain.proofs.levels.push_under.Given as goal

abbrev pub invariant-covers : goal.invariant-covers
invariant-covers l = record {
  runs : AreRuns (map cover_run l.rest);
  reach : ReachTo l.around.first l.rest;
  fit : AreFit l.next.items;
  at : (y a : ℕ) → (has_at l.next.items y a || (reaches l.around a && covers_at l.rest y a)) ≡ (has_at l.fn.next.items y a || (reaches l.around a && covers_at l.covers y a));
}

abbrev pub decreases-covers : goal.decreases-covers
decreases-covers l = length l.rest
