use Rattle.std.proofs.Common.{◌≡◌, ◌≤◌, ◌+◌, [], vec_len, vec_capacity}
use Rattle.std.specs.List.{All}
use Rattle.unit_workers.specs.Held.{held}
use Rattle.unit_workers.specs.Working.{one_hand}
use Rattle.unit_workers.proofs.runner.deal.Given as goal

abbrev pub invariant-hands : goal.invariant-hands
invariant-hands l = record {
  hand : l.hand ≡ held l.tickets [] l.hand.rights l.hand.rights;
  left : l.hand.rights + vec_len l.hands ≡ l.workers;
  dealt : vec_len l.hands + 1 ≡ l._i;
  room : l.workers ≤ vec_capacity l.hands;
  each : All (λ h. h ≡ one_hand l.tickets) l.hands.items;
}
