use Rattle.std.proofs.Common.{◌≡◌, ◌++◌, length, take, drop, arith}
use Rattle.std.proofs.lemmas.Grind.{common_steps}
use Rattle.range_set.proofs.JoinLemmas.{ascending_sorted}
use Rattle.range_set.proofs.merge.sorted_copy.Goals as goal

pub returns-clause-ascending : goal.returns-clause-ascending
returns-clause-ascending c =
    let same : take c.in_ok-sorted.sorted.len (c.sort_by_start.new.spans ++ drop (length c.sort_by_start.new.spans) c.in_ok-sorted.sorted.items) ≡ c.sort_by_start.new.spans
    = grind (arith, common_steps) in
    rw same (ascending_sorted _ c.sort_by_start.ensures.sorted)
