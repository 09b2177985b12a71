use Rattle.std.proofs.Common.{nat_le, rules, arith}
use Rattle.std.proofs.lemmas.List.Sorted.{IsPartitionPoint-from_clause}
use Rattle.step_maps.proofs.SteppingLemmas.{Point, parted}
use Rattle.func_flatten.proofs.ClassLemmas.{reached_some, reached_none}
use Rattle.func_flatten.proofs.cover_marks.reaches_any.Goals as goal

pub returns-then-count-gt0 : goal.returns-then-count-gt0
returns-then-count-gt0 c =
    let point : Point c.args.addresses.now c.args.stretch.last c.partition_point-count.result
    = IsPartitionPoint-from_clause (λ a. nat_le a c.args.stretch.last) _ _ c.partition_point-count.ensures.partitioned (parted _ _ c.requires) (λ a r q k. search rules) in
    reached_some _ c.args.stretch _ c.requires point (omega arith) c.partition_point-count.ensures.bound

pub returns-else-count-gt0 : goal.returns-else-count-gt0
returns-else-count-gt0 c =
    let point : Point c.args.addresses.now c.args.stretch.last c.partition_point-count.result
    = IsPartitionPoint-from_clause (λ a. nat_le a c.args.stretch.last) _ _ c.partition_point-count.ensures.partitioned (parted _ _ c.requires) (λ a r q k. search rules) in
    reached_none _ c.args.stretch _ point (omega arith)
