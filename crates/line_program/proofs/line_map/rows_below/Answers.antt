use Rattle.std.proofs.Common.{nat_lt, rules}
use Rattle.std.proofs.lemmas.List.Sorted.{IsPartitionPoint-from_clause}
use Rattle.line_program.proofs.PaintLemmas.{Below, parted_below, below_sorted, below_all, below_same}
use Rattle.line_program.proofs.line_map.rows_below.Goals as goal

pub returns-clause-sorted : goal.returns-clause-sorted
returns-clause-sorted c = below_sorted c.args.rows.now c.partition_point-count.result c.requires

pub returns-clause-below : goal.returns-clause-below
returns-clause-below c =
    let point : Below c.args.rows.now c.args.end c.partition_point-count.result
    = IsPartitionPoint-from_clause (λ r. nat_lt r.address c.args.end) _ _ c.partition_point-count.ensures.partitioned (parted_below _ _ c.requires) (λ a r q k. search rules) in
    below_all c.args.rows.now c.args.end c.partition_point-count.result point

pub returns-clause-same : goal.returns-clause-same
returns-clause-same c =
    let point : Below c.args.rows.now c.args.end c.partition_point-count.result
    = IsPartitionPoint-from_clause (λ r. nat_lt r.address c.args.end) _ _ c.partition_point-count.ensures.partitioned (parted_below _ _ c.requires) (λ a r q k. search rules) in
    below_same c.args.rows.now c.args.end c.partition_point-count.result c.requires point
