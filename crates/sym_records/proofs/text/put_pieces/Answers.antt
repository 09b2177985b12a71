use Rattle.std.proofs.Common.{arith}
use Rattle.sym_rules.proofs.BufferLemmas.{hands_none, hands_all}
use Rattle.sym_records.proofs.HandingLemmas.{same_piece, same_broken}
use Rattle.sym_records.proofs.text.put_pieces.Goals as goal

pub loop-piece-init : goal.loop-piece-init
loop-piece-init g c = hands_none _ _ _

pub loop-piece-preserved : goal.loop-piece-preserved
loop-piece-preserved g c =
    same_piece (λ piece. piece) c.args.pieces.now c.loop-piece.piece-index c.piece-item.result _ _ _ _ _ _ _ _ _ _ _ (omega arith) c.piece-item.is c.as_slice.ensures c.loop-piece.invariant c.in-Ok.ensures

pub returns-in-Err : goal.returns-in-Err
returns-in-Err g c =
    same_broken (λ piece. piece) c.args.pieces.now c.loop-piece.piece-index c.piece-item.result _ _ _ _ _ _ _ _ _ _ _ _ _ (omega arith) c.piece-item.is c.as_slice.ensures c.loop-piece.invariant c.in-Err.ensures

pub returns : goal.returns
returns g c = hands_all (λ piece. piece) c.args.pieces.now c.loop-piece.piece-index _ _ _ _ _ _ _ (omega arith) c.loop-piece.invariant
