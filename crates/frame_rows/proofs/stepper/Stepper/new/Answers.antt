use Rattle.frame_rows.proofs.EntryLemmas.{rows_good}
use Rattle.frame_rows.proofs.StartLemmas.{start_are, own_fine, start_stopped, cie_stopped}
use Rattle.frame_rows.proofs.stepper.Stepper.new.Goals as goal

pub returns-in-Err-into_begun-clause-exact : goal.returns-in-Err-into_begun-clause-exact
returns-in-Err-into_begun-clause-exact c = cie_stopped _ _ c.in-Err-into_begun.stop c.args.fde.now _ _ c.in-Err-into_begun.ensures.fault

pub returns-in-Ok-start-clause-rows : goal.returns-in-Ok-start-clause-rows
returns-in-Ok-start-clause-rows c = start_are _ c.args.fde.now _ (rows_good c.args.fde.now c.in-Ok.ensures) c.fde.view_is c.in-Ok-start.ensures.rows c.requires.some

pub returns-in-Ok-start-clause-good : goal.returns-in-Ok-start-clause-good
returns-in-Ok-start-clause-good c = (c.in-Ok-start.ensures.fresh.1, own_fine c.args.fde.now _ (rows_good c.args.fde.now c.in-Ok.ensures) c.in-Ok-start.ensures.fault)

pub returns-in-Err-start-clause-exact : goal.returns-in-Err-start-clause-exact
returns-in-Err-start-clause-exact c = start_stopped _ _ c.in-Err-start.stop c.args.fde.now _ _ c.in-Ok-into_begun.ensures.fault c.in-Err-start.ensures.fault
