use Rattle.std.proofs.Common.{◌≡◌, length, vec_len}
use Rattle.std.specs.List.{All}
use Rattle.unit_workers.specs.Working.{IsResult, placed}
use Rattle.unit_workers.proofs.results.place.Given as goal

abbrev pub invariant-results : goal.invariant-results
invariant-results g l = record {
  each : All (IsResult (g.J.UnitJob.gives l._job) (length l.initial.slots)) l.found.items;
  same : placed l.slots l.found.items ≡ placed l.initial.slots l.initial.found.items;
}

abbrev pub decreases-results : goal.decreases-results
decreases-results g l = vec_len l.found
