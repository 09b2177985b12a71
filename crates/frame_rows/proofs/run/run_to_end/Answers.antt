use Rattle.std.proofs.Common.{length, sym, ◌∙◌}
use Rattle.frame_rows.proofs.ReadLemmas.{none_left}
use Rattle.frame_rows.proofs.StepperLemmas.{none_ahead, state_ended}
use Rattle.frame_rows.proofs.run.run_to_end.Goals as goal

pub returns-clause-fault : goal.returns-clause-fault
returns-clause-fault c =
    sym c.rest.invariant.fault
    ∙ none_ahead c.args.context.now c.args.encoding c.args.base c.rest.cursor c.rest.machine (none_left (length c.rest.cursor.bytes) c.rest-test.ensures)

pub returns-clause-state : goal.returns-clause-state
returns-clause-state c =
    sym (state_ended c.args.context.now c.args.encoding c.args.base c.rest.cursor c.rest.machine (none_left (length c.rest.cursor.bytes) c.rest-test.ensures))
    ∙ c.rest.invariant.state
