use Rattle.func_flatten.proofs.PieceLemmas.{pieces_are, covers_cut}
use Rattle.func_flatten.proofs.owners.pieces.Goals as goal

pub pieces_of-requires : goal.pieces_of-requires
pieces_of-requires c =
    rw (c.as_slice-2.ensures.value, c.as_slice.ensures)
    (covers_cut c.args.units.now _ _ _ c.in_ok-all.ensures.all c.in_ok-all.ensures.fit c.in_ok-covers.ensures)

pub returns : goal.returns
returns c =
    rw c.of.ensures
    (pieces_are c.args.units.now _ _ _ _ c.in_ok-all.ensures.all c.in_ok-all.ensures.fit c.in_ok-covers.ensures (rw (c.as_slice.ensures, c.as_slice-2.ensures.value) at c.in_ok-pieces.ensures))
