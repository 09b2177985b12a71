use Rattle.frame_rows.proofs.StartLemmas.{begins, start_stopped}
use Rattle.frame_rows.proofs.stepper.Stepper.begin.Goals as goal

pub returns-in-Ok-start-clause-begins : goal.returns-in-Ok-start-clause-begins
returns-in-Ok-start-clause-begins c = begins _ c.args.fde.now c.in-Ok-start.stepper c.in-Ok.ensures.fault c.fde.view_is c.in-Ok-start.ensures.fault c.in-Ok-start.ensures.rows c.requires.some

pub returns-in-Err-start-clause-begins : goal.returns-in-Err-start-clause-begins
returns-in-Err-start-clause-begins c = start_stopped _ _ c.in-Err-start.stop c.args.fde.now _ _ c.in-Ok.ensures.fault c.in-Err-start.ensures.fault
