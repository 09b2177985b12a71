use Rattle.std.proofs.Common.{◌≡◌, ◌++◌, map, length, unwrap_or, slice_get}
use Rattle.func_records.proofs.numbers.numbers_at.Given as goal

abbrev pub invariant-places : goal.invariant-places
invariant-places l = l.found.items ++ map (λ k. unwrap_or (slice_get l.numbers k) 0) l.rest ≡ map (λ k. unwrap_or (slice_get l.numbers k) 0) l.places

abbrev pub decreases-places : goal.decreases-places
decreases-places l = length l.rest
