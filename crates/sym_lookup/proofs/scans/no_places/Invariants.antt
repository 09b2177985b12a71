use Rattle.std.proofs.Common.{◌≡◌, replicate, None}
use Rattle.sym_lookup.proofs.scans.no_places.Given as goal

abbrev pub invariant-levels : goal.invariant-levels
invariant-levels l = l.places.items ≡ replicate l.level None
