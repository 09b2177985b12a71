use Rattle.std.proofs.Common.{length}
use Rattle.range_set.proofs.CutLemmas.{Cuts}
use Rattle.range_set.proofs.difference.push_cut.Given as goal

abbrev pub invariant-cuts : goal.invariant-cuts
invariant-cuts l = Cuts l.fn.built l.span l.cuts l.built l.from l.rest

abbrev pub decreases-cuts : goal.decreases-cuts
decreases-cuts l = length l.rest
