use Rattle.std.proofs.Common.{length, arith}
use Rattle.frame_rows.proofs.ReadLemmas.{some_left, none_left}
use Rattle.frame_rows.proofs.StepperLemmas.{fewer_left, unread_fault, refused_fault, still, state_still, rows_moved, rows_stay, stays_there, rows_last}
use Rattle.frame_rows.proofs.ColumnLemmas.{stay_on}
use Rattle.frame_rows.proofs.run.run_to_next_row.Goals as goal

pub returns-in-Err-clause-fault : goal.returns-in-Err-clause-fault
returns-in-Err-clause-fault c =
    unread_fault c.args.context.now c.args.encoding c.args.base c.turns.cursor c.turns.machine c.in-Err.why _
    (some_left (length c.turns.cursor.bytes) c.turns-test.ensures) c.in-Err.ensures c.turns.invariant.fault

pub returns-in-Err-step-clause-fault : goal.returns-in-Err-step-clause-fault
returns-in-Err-step-clause-fault c =
    refused_fault _ _ c.in-Err-step.stop c.args.context.now c.args.encoding c.args.base c.turns.cursor c.read.new.cursor c.in-Ok.instruction c.turns.machine c.step.new.machine _ _
    (some_left (length c.turns.cursor.bytes) c.turns-test.ensures) c.in-Ok.ensures c.in-Err-step.ensures c.turns.invariant.fault

pub returns-then-address-clause-fault : goal.returns-then-address-clause-fault
returns-then-address-clause-fault c =
    still c.args.context.now c.args.encoding c.args.base c.turns.cursor c.read.new.cursor c.in-Ok.instruction c.turns.machine c.step.new.machine _
    (some_left (length c.turns.cursor.bytes) c.turns-test.ensures) c.in-Ok.ensures c.in-Ok-step.ensures.0 c.in-Ok-step.ensures.1 c.turns.invariant.fault

pub returns-then-address-clause-state : goal.returns-then-address-clause-state
returns-then-address-clause-state c =
    state_still c.args.context.now c.args.encoding c.args.base c.turns.cursor c.read.new.cursor c.in-Ok.instruction c.turns.machine c.step.new.machine _
    (some_left (length c.turns.cursor.bytes) c.turns-test.ensures) c.in-Ok.ensures c.in-Ok-step.ensures.1 c.turns.invariant.state

pub returns-then-address-clause-fewer : goal.returns-then-address-clause-fewer
returns-then-address-clause-fewer c = λ some.
    omega (arith, fewer_left c.args.encoding c.args.base c.turns.cursor c.read.new.cursor c.in-Ok.instruction c.in-Ok.ensures, c.turns.invariant.fewer)

pub returns-then-address-clause-rows : goal.returns-then-address-clause-rows
returns-then-address-clause-rows c = λ end low.
    rows_moved end c.args.context.now c.args.encoding c.args.base c.args.machine.now.address c.turns.cursor c.read.new.cursor c.in-Ok.instruction c.turns.machine c.step.new.machine _
    (some_left (length c.turns.cursor.bytes) c.turns-test.ensures) c.in-Ok.ensures c.in-Ok-step.ensures.1 c.turns.invariant.here (omega arith) low (c.turns.invariant.rows end)

pub returns-then-address-clause-stays : goal.returns-then-address-clause-stays
returns-then-address-clause-stays c =
    stay_on c.args.machine.now.row c.turns.machine c.step.new.machine c.args.context.now c.in-Ok.instruction c.turns.columns c.join-columns.result c.touched.result c.turns.invariant.stays (c.touched.ensures c.args.context.now) c.in-Ok-step.ensures.1 c.join-columns.ensures

pub turns-smaller : goal.turns-smaller
turns-smaller c = fewer_left c.args.encoding c.args.base c.turns.cursor c.read.new.cursor c.in-Ok.instruction c.in-Ok.ensures

pub turns-preserved : goal.turns-preserved
turns-preserved c =
    let some = some_left (length c.turns.cursor.bytes) c.turns-test.ensures in
    record {
      stays = stay_on c.args.machine.now.row c.turns.machine c.step.new.machine c.args.context.now c.in-Ok.instruction c.turns.columns c.join-columns.result c.touched.result c.turns.invariant.stays (c.touched.ensures c.args.context.now) c.in-Ok-step.ensures.1 c.join-columns.ensures;
      fault =
          still c.args.context.now c.args.encoding c.args.base c.turns.cursor c.read.new.cursor c.in-Ok.instruction c.turns.machine c.step.new.machine _
          some c.in-Ok.ensures c.in-Ok-step.ensures.0 c.in-Ok-step.ensures.1 c.turns.invariant.fault;
      state =
          state_still c.args.context.now c.args.encoding c.args.base c.turns.cursor c.read.new.cursor c.in-Ok.instruction c.turns.machine c.step.new.machine _
          some c.in-Ok.ensures c.in-Ok-step.ensures.1 c.turns.invariant.state;
      fewer = omega (arith, fewer_left c.args.encoding c.args.base c.turns.cursor c.read.new.cursor c.in-Ok.instruction c.in-Ok.ensures, c.turns.invariant.fewer);
      here = stays_there c.args.context.now c.in-Ok.instruction c.turns.machine c.step.new.machine c.args.machine.now.address c.in-Ok-step.ensures.0 c.in-Ok-step.ensures.1 c.turns.invariant.here (omega arith);
      rows = λ end.
          rows_stay end c.args.context.now c.args.encoding c.args.base c.turns.cursor c.read.new.cursor c.in-Ok.instruction c.turns.machine c.step.new.machine _
          some c.in-Ok.ensures c.in-Ok-step.ensures.1 (omega arith) (c.turns.invariant.rows end);
    }

pub returns-clause-rows : goal.returns-clause-rows
returns-clause-rows c = λ end low.
    rows_last end c.args.context.now c.args.encoding c.args.base c.args.machine.now.address c.turns.cursor c.turns.machine _
    (none_left (length c.turns.cursor.bytes) c.turns-test.ensures) c.turns.invariant.here low (c.turns.invariant.rows end)

pub returns-clause-fewer : goal.returns-clause-fewer
returns-clause-fewer c = λ some. omega (arith, none_left (length c.turns.cursor.bytes) c.turns-test.ensures, some)
