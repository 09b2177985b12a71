use Rattle.std.proofs.Common.{◌≡◌, ◌-◌, length}
use Rattle.frame_rows.proofs.TakeLemmas.{Taking}
use Rattle.frame_rows.proofs.row.Row.follow.Given as goal

abbrev pub invariant-columns : goal.invariant-columns
invariant-columns l = record {
  cfa : l.self.cfa ≡ l.to.cfa;
  many : length l.self.rules ≡ 17;
  more : length l.to.rules ≡ 17;
  taking : Taking l.column l.end l.self.rules l.to.rules;
}

abbrev pub decreases-columns : goal.decreases-columns
decreases-columns l = l.end - l.column
