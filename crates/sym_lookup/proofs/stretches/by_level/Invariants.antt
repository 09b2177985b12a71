use Rattle.sym_lookup.proofs.LevelLemmas.{AreLeveledTo}
use Rattle.sym_lookup.proofs.stretches.by_level.Given as goal

abbrev pub invariant-records : goal.invariant-records
invariant-records l = AreLeveledTo l.first l.at l.records l.leveled.items
