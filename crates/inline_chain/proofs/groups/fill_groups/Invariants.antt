use Rattle.std.proofs.Common.{length}
use Rattle.step_maps.specs.SpanStretches.{AreFit}
use Rattle.inline_chain.specs.internal.Copies.{SortedFrom}
use Rattle.inline_chain.specs.internal.Levels.{Groups}
use Rattle.inline_chain.proofs.groups.fill_groups.Given as goal

abbrev pub invariant-groups : goal.invariant-groups
invariant-groups l = record {
  fit : AreFit l.rest;
  sorted : SortedFrom 0 l.rest;
  groups : Groups l.level l.items l.rest l.made.items;
}

abbrev pub decreases-groups : goal.decreases-groups
decreases-groups l = length l.rest
