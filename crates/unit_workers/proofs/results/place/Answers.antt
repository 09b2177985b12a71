use Rattle.std.proofs.Common.{length, sym, ap, ◌∙◌}
use Rattle.std.proofs.lemmas.List.Elements.{All-pop}
use Rattle.unit_workers.specs.Working.{IsResult, placed}
use Rattle.unit_workers.proofs.PlaceLemmas.{placed_push}
use Rattle.unit_workers.proofs.results.place.Goals as goal

pub results-preserved-in-Some : goal.results-preserved-in-Some
results-preserved-in-Some g c = record {
  each = (All-pop (IsResult (g.J.UnitJob.gives c.args._job.now) (length c.args.slots.now)) _ _ _ c.pop.ensures.items c.results.invariant.each).0;
  same = sym (ap (placed c.results.slots) (rw c.in-Some.is at c.pop.ensures.items) ∙ placed_push c.results.slots c.pop.new.self.items (c.in-Some.k, c.in-Some.out)) ∙ c.results.invariant.same;
}

pub results-preserved : goal.results-preserved
results-preserved g c = record {
  each = (All-pop (IsResult (g.J.UnitJob.gives c.args._job.now) (length c.args.slots.now)) _ _ _ c.pop.ensures.items c.results.invariant.each).0;
  same = sym (ap (placed c.results.slots) (rw c.in-Some.is at c.pop.ensures.items) ∙ placed_push c.results.slots c.pop.new.self.items (c.in-Some.k, c.in-Some.out)) ∙ c.results.invariant.same;
}
