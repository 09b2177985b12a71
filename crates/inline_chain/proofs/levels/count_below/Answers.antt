use Rattle.std.proofs.Common.{nat_lt, rules}
use Rattle.std.proofs.lemmas.List.Sorted.{IsPartitionPoint-from_clause}
use Rattle.inline_chain.proofs.LevelLemmas.{parted, starts}
use Rattle.inline_chain.proofs.levels.count_below.Goals as goal

pub returns : goal.returns
returns c = starts _ _ _ c.requires c.partition_point.ensures.bound
    (IsPartitionPoint-from_clause (λ m. nat_lt m.last c.args.first) _ _ c.partition_point.ensures.partitioned (parted _ _ c.requires) (λ a r q k. search rules))
