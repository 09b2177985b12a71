use Rattle.std.proofs.Common.{rules, arith}
use Rattle.sym_judge.proofs.StopListLemmas.{both_kept}
use Rattle.sym_judge.proofs.record_stops.push_run.Goals as goal

pub returns : goal.returns
returns c = both_kept c.args.doubts.now c.args.address c.args.size c.in-Some.end _ _ _ c.in_ok-push_stop.ensures c.in_ok-push_stop-2.ensures (search rules) (omega arith)
