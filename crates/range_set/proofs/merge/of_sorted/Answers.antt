use Rattle.range_set.proofs.JoinLemmas.{from_zero}
use Rattle.range_set.proofs.merge.of_sorted.Goals as goal

pub push_all-requires-clause-last : goal.push_all-requires-clause-last
push_all-requires-clause-last c = rw c.new-built.ensures (from_zero c.args.spans.now)
