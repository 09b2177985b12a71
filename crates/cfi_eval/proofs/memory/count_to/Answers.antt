use Rattle.std.proofs.Common.{leb, leb-true, leb-false, arith, rules}
use Rattle.std.proofs.lemmas.List.Sorted.{IsPartitionPoint-from_clause, IsPartitionedBy-leb}
use Rattle.cfi_eval.proofs.MemoryLemmas.{byte_by_halves, rise_ordered}
use Rattle.cfi_eval.proofs.memory.count_to.Goals as goal

pub returns-clause-decides : goal.returns-clause-decides
returns-clause-decides c =
    let parted = IsPartitionedBy-leb (λ run. run.start) _ c.args.a (rise_ordered 0 c.args.runs.now c.requires) in
    let point = IsPartitionPoint-from_clause (λ run. leb run.start c.args.a) _ _ c.partition_point.ensures.partitioned parted (λ a r q k. search rules) in
    byte_by_halves 0 c.args.a c.args.runs.now c.partition_point.result c.requires c.partition_point.ensures.bound
    (λ k d h. leb-true _ _ (point.0 k d (omega arith) h))
    (λ k d h l. leb-false _ _ (point.1 k d h l))
