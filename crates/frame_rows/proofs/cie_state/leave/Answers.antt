use Rattle.frame_rows.proofs.LeftLemmas.{refused_left}
use Rattle.frame_rows.proofs.cie_state.leave.Goals as goal

pub returns-in-Err : goal.returns-in-Err
returns-in-Err c = refused_left _ _ c.in-Err.stop c.args.fde.now _ c.in-Err.ensures.fault
