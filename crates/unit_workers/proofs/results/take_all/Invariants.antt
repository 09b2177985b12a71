use Rattle.std.proofs.Common.{◌≡◌, ◌≤◌, length, vec_len, vec_capacity}
use Rattle.unit_workers.specs.Working.{AreInOrder, AreTaken}
use Rattle.unit_workers.proofs.results.take_all.Given as goal

abbrev pub invariant-places : goal.invariant-places
invariant-places g l = record {
  count : vec_len l.outs ≡ l.k;
  room : length l.places ≤ vec_capacity l.outs;
  ordered : AreInOrder (g.J.UnitJob.gives l._job) l.outs.items;
  rest : AreTaken (g.J.UnitJob.gives l._job) l.k l.places;
}
