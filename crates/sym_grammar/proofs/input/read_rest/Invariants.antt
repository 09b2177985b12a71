use Rattle.std.proofs.Common.{◌≡◌, length, ◌+◌, ◌-◌, ◌≤◌}
use Rattle.sym_grammar.specs.internal.Fed.{HasRead}
use Rattle.sym_grammar.proofs.input.read_rest.Given as goal

abbrev pub invariant-pieces : goal.invariant-pieces
invariant-pieces g l =
    let S = g.S.Store in
    record {
      asked : S.asked l.store ≡ S.asked l.fn.store;
      files : S.files l.store ≡ S.files l.fn.store;
      faults : S.faults l.fn.store ≤ S.faults l.store;
      steady : S.faults l.store ≡ S.faults l.fn.store;
      room : length l.piece ≡ l.room;
      read : HasRead l.limit (S.left l.fn.store) (S.left l.store) l.reader l.count;
    }

abbrev pub decreases-pieces : goal.decreases-pieces
decreases-pieces g l = (l.limit + 1) - l.count
