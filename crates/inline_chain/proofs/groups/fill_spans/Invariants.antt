use Rattle.std.proofs.Common.{◌≡◌, ℕ, ◌||◌, length}
use Rattle.std.specs.List.{list_any}
use Rattle.range_set.specs.Members.{holds_any}
use Rattle.step_maps.specs.Covers.{reaches}
use Rattle.step_maps.specs.SpanStretches.{AreFit}
use Rattle.inline_chain.proofs.groups.fill_spans.Given as goal

abbrev pub invariant-group : goal.invariant-group
invariant-group l = record {
  fit : AreFit l.rest;
  at : (a : ℕ) → (holds_any l.spans.items a || list_any (λ s. reaches s a) l.rest) ≡ list_any (λ s. reaches s a) l.group;
}

abbrev pub decreases-group : goal.decreases-group
decreases-group l = length l.rest
