use Rattle.unit_workers.specs.Working.{IsWorked}
use Rattle.unit_workers.proofs.WorkLemmas.{ahead}
use Rattle.unit_workers.proofs.worker.work.Given as goal

abbrev pub invariant-draws : goal.invariant-draws
invariant-draws g l = IsWorked (g.J.UnitJob.gives l.job) l.tickets 1 l.hand l.found.items

abbrev pub decreases-draws : goal.decreases-draws
decreases-draws g l = ahead l.hand
