use Rattle.std.proofs.Common.{sym, ◌∙◌}
use Rattle.frame_rows.proofs.EntryLemmas.{walked_by, none_refused, some_refused, pass_stopped}
use Rattle.frame_rows.proofs.entry_rows.check_rows_behind.Goals as goal

pub returns-in-Err : goal.returns-in-Err
returns-in-Err c = pass_stopped _ _ c.in-Err.stop c.args.fde.now _ c.in_ok-stepper.ensures.begins.fault c.in-Err.ensures.fault

pub returns-then-lacking : goal.returns-then-lacking
returns-then-lacking c =
    some_refused c.args.fde.now _ c.in-Ok.lacking
    (walked_by c.args.fde.now _ (sym c.in_ok-stepper.ensures.begins.fault ∙ c.in-Ok.ensures.fault) (c.in_ok-stepper.ensures.begins.rows c.in-Ok.ensures.fault))
    c.if-lacking.true c.in-Ok.ensures.lack

pub returns : goal.returns
returns c =
    none_refused c.args.fde.now _ c.in-Ok.lacking
    (walked_by c.args.fde.now _ (sym c.in_ok-stepper.ensures.begins.fault ∙ c.in-Ok.ensures.fault) (c.in_ok-stepper.ensures.begins.rows c.in-Ok.ensures.fault))
    c.if-lacking.false c.in-Ok.ensures.lack
