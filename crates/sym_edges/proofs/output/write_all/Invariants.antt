use Rattle.std.proofs.Common.{◌≡◌, ℕ, List, ◌≤◌, ◌++◌, length}
use Rattle.sym_edges.specs.Outside.{append_told}
use Rattle.sym_edges.proofs.output.write_all.Given as goal

abbrev pub invariant-pieces : goal.invariant-pieces
invariant-pieces g l =
    let O = g.O.Sink in
    record {
      faults : O.faults l.fn.sink ≤ O.faults l.sink;
      rest : append_told (O.taken l.sink) l.rest ≡ append_told (O.taken l.fn.sink) l.bytes;
      front : (written : List ℕ) × (l.bytes ≡ written ++ l.rest) × (O.taken l.sink ≡ append_told (O.taken l.fn.sink) written);
    }

abbrev pub decreases-pieces : goal.decreases-pieces
decreases-pieces g l = length l.rest
