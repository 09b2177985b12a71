use Rattle.std.proofs.Common.{◌≡◌, [], replicate}
use Rattle.debug_read.proofs.ranges.no_sets.Given as goal

abbrev pub invariant-entries : goal.invariant-entries
invariant-entries l = l.sets ≡ replicate l._entry []
