use Rattle.std.proofs.Common.{nat_le, rules, arith}
use Rattle.std.proofs.lemmas.List.Sorted.{IsPartitionPoint-from_clause}
use Rattle.step_maps.proofs.SteppingLemmas.{Point, parted, point_none, point_some}
use Rattle.step_maps.proofs.steps.find_step.Goals as goal

pub returns-then-count-eq0 : goal.returns-then-count-eq0
returns-then-count-eq0 g c =
    let point : Point c.args.stops.now c.args.a c.partition_point-count.result
    = IsPartitionPoint-from_clause (λ s. nat_le s c.args.a) _ _ c.partition_point-count.ensures.partitioned (parted _ _ c.requires.rising) (λ a r q k. search rules) in
    point_none _ _ _ _ _ point (omega arith)

pub returns : goal.returns
returns g c =
    let point : Point c.args.stops.now c.args.a c.partition_point-count.result
    = IsPartitionPoint-from_clause (λ s. nat_le s c.args.a) _ _ c.partition_point-count.ensures.partitioned (parted _ _ c.requires.rising) (λ a r q k. search rules) in
    point_some _ _ _ _ _ _ c.requires point c.if-count-eq0.false c.partition_point-count.ensures.bound c.index-values-count.is
