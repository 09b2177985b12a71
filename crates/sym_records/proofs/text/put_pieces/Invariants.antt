use Rattle.std.proofs.Common.{take}
use Rattle.std.specs.List.{flat_map}
use Rattle.sym_rules.proofs.BufferLemmas.{Handed}
use Rattle.sym_records.proofs.text.put_pieces.Given as goal

abbrev pub invariant-loop-piece : goal.invariant-loop-piece
invariant-loop-piece g l =
    let O = g.O.Sink in
    Handed (O.taken l.fn.sink) (O.faults l.fn.sink) l.fn.waiting (flat_map (λ piece. piece) (take l.piece-index l.pieces)) (O.taken l.sink) (O.faults l.sink) l.waiting
