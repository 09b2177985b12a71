use Rattle.std.proofs.Common.{◌≡◌, nat_le, true, false, rules}
use Rattle.std.specs.List.Sorted.{IsPartitionPoint}
use Rattle.std.proofs.lemmas.List.Sorted.{IsPartitionPoint-from_clause}
use Rattle.rule_postfix.proofs.OverlapLemmas.{parted_by_end, rising_met, rising_unmet}
use Rattle.rule_postfix.proofs.written_ranges.meets_rising.Goals as goal

pub returns-in-Some : goal.returns-in-Some
returns-in-Some c =
    let point : IsPartitionPoint (λ r. nat_le r.end c.args.start ≡ true) (λ r. nat_le r.end c.args.start ≡ false) c.args.spans.now c.partition_point-first.result
    = IsPartitionPoint-from_clause (λ r. nat_le r.end c.args.start) _ _ c.partition_point-first.ensures.partitioned (parted_by_end _ _ c.requires.rising) (λ a r q k. search rules) in
    rw c.start.ensures.start (rising_met (record { start = c.args.start; end = c.args.end }) _ _ _ c.requires.rising point c.in-Some.ensures.lookup.3.0 c.in-Some.ensures.lookup.1)

pub returns-in-None : goal.returns-in-None
returns-in-None c =
    let point : IsPartitionPoint (λ r. nat_le r.end c.args.start ≡ true) (λ r. nat_le r.end c.args.start ≡ false) c.args.spans.now c.partition_point-first.result
    = IsPartitionPoint-from_clause (λ r. nat_le r.end c.args.start) _ _ c.partition_point-first.ensures.partitioned (parted_by_end _ _ c.requires.rising) (λ a r q k. search rules) in
    rising_unmet (record { start = c.args.start; end = c.args.end }) _ _ point c.in-None.ensures.lookup.3
