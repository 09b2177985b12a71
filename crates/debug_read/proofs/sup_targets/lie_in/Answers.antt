use Rattle.std.proofs.Common.{◌≡◌, nat_lt, true, false, rules}
use Rattle.std.specs.List.Sorted.{IsPartitionPoint}
use Rattle.std.proofs.lemmas.List.Sorted.{IsPartitionPoint-from_clause, IsPartitionedBy-ltb}
use Rattle.debug_read.proofs.TargetLemmas.{found, found_some, found_none}
use Rattle.debug_read.proofs.sup_targets.lie_in.Goals as goal

pub returns-in-Some : goal.returns-in-Some
returns-in-Some c =
    let point : IsPartitionPoint (λ p. nat_lt p c.args.unit.now.start ≡ true) (λ p. nat_lt p c.args.unit.now.start ≡ false) c.args.places.now c.partition_point-before.result
    = IsPartitionPoint-from_clause (λ p. nat_lt p c.args.unit.now.start) _ _ c.partition_point-before.ensures.partitioned (IsPartitionedBy-ltb (λ p. p) _ c.args.unit.now.start c.requires) (λ a r q k. search rules) in
    rw c.from.ensures (found_some c.args.unit.now _ _ _ (found c.args.unit.now _ _ c.requires point c.partition_point-before.ensures.bound) c.in-Some.ensures.lookup.3.0 c.in-Some.ensures.lookup.1)

pub returns-in-None : goal.returns-in-None
returns-in-None c =
    let point : IsPartitionPoint (λ p. nat_lt p c.args.unit.now.start ≡ true) (λ p. nat_lt p c.args.unit.now.start ≡ false) c.args.places.now c.partition_point-before.result
    = IsPartitionPoint-from_clause (λ p. nat_lt p c.args.unit.now.start) _ _ c.partition_point-before.ensures.partitioned (IsPartitionedBy-ltb (λ p. p) _ c.args.unit.now.start c.requires) (λ a r q k. search rules) in
    found_none c.args.unit.now _ _ (found c.args.unit.now _ _ c.requires point c.partition_point-before.ensures.bound) c.in-None.ensures.lookup.3
