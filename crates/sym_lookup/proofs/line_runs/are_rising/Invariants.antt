use Rattle.std.proofs.Common.{drop}
use Rattle.sym_lookup.specs.UnderOf.{AreRising}
use Rattle.sym_lookup.proofs.line_runs.are_rising.Given as goal

abbrev pub invariant-records : goal.invariant-records
invariant-records l = AreRising l.low (drop l.at l.records) → AreRising 0 l.records
