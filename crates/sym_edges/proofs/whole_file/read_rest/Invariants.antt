use Rattle.std.proofs.Common.{◌≡◌, length, ◌+◌, ◌-◌, ◌≤◌, vec_len}
use Rattle.sym_edges.specs.WholeFile.{IsParted}
use Rattle.sym_edges.proofs.whole_file.read_rest.Given as goal

abbrev pub invariant-pieces : goal.invariant-pieces
invariant-pieces g l =
    let S = g.S.Store in
    record {
      asked : S.asked l.store ≡ S.asked l.fn.store;
      files : S.files l.store ≡ S.files l.fn.store;
      faults : S.faults l.fn.store ≤ S.faults l.store;
      steady : S.faults l.store ≡ S.faults l.fn.store;
      room : length l.piece ≡ l.room;
      parted : IsParted (S.left l.fn.store) l.bytes.items (S.left l.store);
    }

abbrev pub decreases-pieces : goal.decreases-pieces
decreases-pieces g l = (l.limit + 1) - vec_len l.bytes
