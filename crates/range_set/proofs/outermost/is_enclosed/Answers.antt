use Rattle.std.proofs.Common.{◌≡◌, suc, ◌-◌, nat_le, true, false, rules, arith}
use Rattle.std.specs.List.Sorted.{IsPartitionPoint}
use Rattle.std.proofs.lemmas.List.Sorted.{IsPartitionPoint-from_clause}
use Rattle.range_set.proofs.OutermostSearch.{parted_by_start, found_none, found_last}
use Rattle.range_set.proofs.outermost.is_enclosed.Goals as goal

pub returns-then-count-eq0 : goal.returns-then-count-eq0
returns-then-count-eq0 c =
    let point : IsPartitionPoint (λ r. nat_le r.start c.args.start ≡ true) (λ r. nat_le r.start c.args.start ≡ false) c.args.spans.now c.partition_point-count.result
    = IsPartitionPoint-from_clause (λ r. nat_le r.start c.args.start) _ _ c.partition_point-count.ensures.partitioned (parted_by_start _ _ c.requires) (λ a r q k. search rules) in
    found_none _ _ _ _ point (omega arith)

pub returns : goal.returns
returns c =
    let point : IsPartitionPoint (λ r. nat_le r.start c.args.start ≡ true) (λ r. nat_le r.start c.args.start ≡ false) c.args.spans.now c.partition_point-count.result
    = IsPartitionPoint-from_clause (λ r. nat_le r.start c.args.start) _ _ c.partition_point-count.ensures.partitioned (parted_by_start _ _ c.requires) (λ a r q k. search rules) in
    let at : c.partition_point-count.result ≡ suc (c.partition_point-count.result - 1) = omega arith in
    rw (c.end.ensures.end, c.index-spans-count.is) (found_last c.args.spans.now c.args.start c.args.end _ (c.partition_point-count.result - 1) c.index-spans-count.result c.requires point at c.partition_point-count.ensures.bound)
