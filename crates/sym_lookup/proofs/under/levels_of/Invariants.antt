use Rattle.sym_lookup.proofs.UnderOfLemmas.{LevelsTo}
use Rattle.sym_lookup.proofs.under.levels_of.Given as goal

abbrev pub invariant-levels : goal.invariant-levels
invariant-levels l = LevelsTo l.first l.records l.count l.level l.levels.items
