use Rattle.std.proofs.Common.{◌≡◌, length, ◌+◌, ◌-◌, ◌^◌, ◌≤◌}
use Rattle.core_file.specs.internal.HeldRest.{HasTaken}
use Rattle.core_file.proofs.stored.read_rest.Given as goal

abbrev pub invariant-pieces : goal.invariant-pieces
invariant-pieces g l =
    let S = g.S.Store in
    record {
      asked : S.asked l.store ≡ S.asked l.fn.store;
      files : S.files l.store ≡ S.files l.fn.store;
      faults : S.faults l.fn.store ≤ S.faults l.store;
      steady : S.faults l.store ≡ S.faults l.fn.store;
      room : length l.piece ≡ l.room;
      taken : HasTaken (S.left l.fn.store) (S.left l.store) l.bytes;
    }

abbrev pub decreases-pieces : goal.decreases-pieces
decreases-pieces g l = (2 ^ 40 + 1) - length l.bytes
