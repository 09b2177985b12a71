use Rattle.std.proofs.Common.{ap}
use Rattle.frame_rows.specs.Context.{with_run}
use Rattle.frame_rows.proofs.StartLemmas.{own_is, start_fault, start_refused, start_rows}
use Rattle.frame_rows.proofs.stepper.start.Goals as goal

pub returns-in-Ok-clause-fault : goal.returns-in-Ok-clause-fault
returns-in-Ok-clause-fault c =
    start_fault _ c.args.fde.now _ _ c.args.begun.machine c.run_to_next_row.new.machine c.new-cursor.result c.run_to_next_row.new.cursor c.fde.view_is (ap (λ k. with_run k c.fde.inside.instructions.now) c.get.ensures) (own_is _ c.args.fde.now _ c.fde.view_is c.requires.context) c.requires.machine c.new-cursor.ensures
    c.in-Ok.ensures.fault

pub returns-in-Ok-clause-rows : goal.returns-in-Ok-clause-rows
returns-in-Ok-clause-rows c =
    start_rows _ c.args.fde.now _ _ c.args.begun.machine c.run_to_next_row.new.machine c.new-cursor.result c.run_to_next_row.new.cursor c.args.end c.fde.view_is (ap (λ k. with_run k c.fde.inside.instructions.now) c.get.ensures) (own_is _ c.args.fde.now _ c.fde.view_is c.requires.context) c.requires.machine c.new-cursor.ensures c.requires.some
    c.in-Ok.ensures.rows

pub returns-clause-fault : goal.returns-clause-fault
returns-clause-fault c =
    start_refused _ _ c.in-Err.stop _ c.args.fde.now _ _ c.args.begun.machine c.new-cursor.result _ _ c.fde.view_is (ap (λ k. with_run k c.fde.inside.instructions.now) c.get.ensures) (own_is _ c.args.fde.now _ c.fde.view_is c.requires.context) c.requires.machine c.new-cursor.ensures
    c.in-Err.ensures.fault
