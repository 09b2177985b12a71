use Rattle.debug_read.proofs.SetLemmas.{SetsRead}
use Rattle.debug_read.proofs.ranges.read_sets.Given as goal

abbrev pub invariant-entries : goal.invariant-entries
invariant-entries l = SetsRead l.sections l.unit l.table.root l.base l.code l.table.dies l.entry l.sets
