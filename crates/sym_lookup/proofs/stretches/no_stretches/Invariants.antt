use Rattle.sym_lookup.specs.internal.Levels.{AreEmpty}
use Rattle.sym_lookup.proofs.stretches.no_stretches.Given as goal

abbrev pub invariant-levels : goal.invariant-levels
invariant-levels l = AreEmpty l.leveled.items
