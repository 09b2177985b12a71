use Rattle.std.proofs.Common.{◌≡◌, List, None, Some, OnOk, subst}
use Rattle.sym_edges.specs.Outside.{MatchStop}
use Rattle.frame_rows.specs.Instructions.{Item}
use Rattle.frame_rows.specs.Rows.{all_stepped, first_fault}
use Rattle.frame_rows.proofs.StartLemmas.{all_ahead}
use Rattle.frame_rows.proofs.run.run_all.Goals as goal

pub returns-clause-fault : goal.returns-clause-fault
returns-clause-fault c =
    let P : List Item → Type 0 = λ l. MatchStop c.run_to_end.result (λ _. first_fault c.args.context.now l c.args.machine.now ≡ None) (λ why. first_fault c.args.context.now l c.args.machine.now ≡ Some why) (Unit {0}) in
    subst P (all_ahead c.args.encoding c.args.base c.args.bytes.now c.new-cursor.result c.new-cursor.ensures) c.run_to_end.ensures.fault

pub returns-clause-state : goal.returns-clause-state
returns-clause-state c =
    let P : List Item → Type 0 = λ l. OnOk c.run_to_end.result (c.run_to_end.new.machine ≡ all_stepped c.args.context.now l c.args.machine.now) in
    subst P (all_ahead c.args.encoding c.args.base c.args.bytes.now c.new-cursor.result c.new-cursor.ensures) c.run_to_end.ensures.state
