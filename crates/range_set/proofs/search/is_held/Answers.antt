use Rattle.std.proofs.Common.{◌≡◌, nat_le, true, false, rules}
use Rattle.std.specs.List.Sorted.{IsPartitionPoint}
use Rattle.std.proofs.lemmas.List.Sorted.{IsPartitionPoint-from_clause}
use Rattle.range_set.proofs.SearchLemmas.{parted_by_end, found, found_at, found_none}
use Rattle.range_set.proofs.search.is_held.Goals as goal

pub returns-in-Some : goal.returns-in-Some
returns-in-Some c =
    let point : IsPartitionPoint (λ r. nat_le r.end c.args.a ≡ true) (λ r. nat_le r.end c.args.a ≡ false) c.args.spans.now c.partition_point-first.result
    = IsPartitionPoint-from_clause (λ r. nat_le r.end c.args.a) _ _ c.partition_point-first.ensures.partitioned (parted_by_end _ _ c.requires) (λ a r q k. search rules) in
    rw c.start.ensures.start (found_at _ _ _ _ (found _ _ _ c.requires point) c.in-Some.ensures.lookup.3.0 c.in-Some.ensures.lookup.1)

pub returns-in-None : goal.returns-in-None
returns-in-None c =
    let point : IsPartitionPoint (λ r. nat_le r.end c.args.a ≡ true) (λ r. nat_le r.end c.args.a ≡ false) c.args.spans.now c.partition_point-first.result
    = IsPartitionPoint-from_clause (λ r. nat_le r.end c.args.a) _ _ c.partition_point-first.ensures.partitioned (parted_by_end _ _ c.requires) (λ a r q k. search rules) in
    found_none _ _ _ (found _ _ _ c.requires point) c.in-None.ensures.lookup.3
