use Rattle.std.proofs.Common.{◌≡◌, ◌+◌, vec_len}
use Rattle.unit_workers.specs.Working.{AreWorked, IsGathered}
use Rattle.unit_workers.proofs.results.gather.Given as goal

abbrev pub invariant-works : goal.invariant-works
invariant-works g l = record {
  share : l.hand.share + vec_len l.works ≡ vec_len l.fn.works;
  gathered : IsGathered (g.J.UnitJob.gives l.job) l.tickets l.hand l.slots;
  each : AreWorked (g.J.UnitJob.gives l.job) l.tickets l.works.items;
}

abbrev pub decreases-works : goal.decreases-works
decreases-works g l = vec_len l.works
