use Rattle.frame_rows.proofs.TakeLemmas.{all_taken}
use Rattle.frame_rows.proofs.row.Row.follow.Goals as goal

pub returns : goal.returns
returns c = all_taken c.columns.column c.min-end.result c.columns.self c.args.to.now c.columns.invariant.many c.columns.invariant.more c.columns.invariant.cfa c.columns.invariant.taking c.columns-test.false
