use Rattle.std.proofs.Common.{◌≡◌, ◌≤◌, replicate, None, vec_capacity}
use Rattle.unit_workers.proofs.results.vacant.Given as goal

abbrev pub invariant-places : goal.invariant-places
invariant-places g l = record { items : l.slots.items ≡ replicate l._i None; room : l.count ≤ vec_capacity l.slots }
