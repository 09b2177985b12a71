use Rattle.std.proofs.Common.{arith}
use Rattle.func_records.proofs.ListLemmas.{member_at}
use Rattle.func_records.proofs.PathLemmas.{gathered_none, gathered_next}
use Rattle.func_records.proofs.paths.gather_paths.Goals as goal

pub pieces-init : goal.pieces-init
pieces-init c = gathered_none c.args.units.now _ c.in_ok-paths.ensures

pub pieces-preserved : goal.pieces-preserved
pieces-preserved c = gathered_next c.args.units.now c.args.pieces.now c.args.held.now c.pieces.place _ c.at.result.now c.at.result.now _ _ (omega arith) c.requires (member_at c.args.held.now c.pieces.place c.at.result.now c.at.ensures) c.pieces.invariant c.in_ok-gather_piece.ensures
