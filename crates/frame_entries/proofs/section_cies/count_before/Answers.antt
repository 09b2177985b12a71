use Rattle.std.proofs.Common.{ltb, rules}
use Rattle.std.proofs.lemmas.List.Sorted.{IsPartitionPoint-from_clause, IsPartitionedBy-ltb}
use Rattle.sym_edges.proofs.RisingLemmas.{sorted_by, stand_below}
use Rattle.frame_entries.specs.declared.cie.Cie.{Cie}
use Rattle.frame_entries.proofs.section_cies.count_before.Goals as goal

pub returns : goal.returns
returns c =
    let parted = IsPartitionedBy-ltb (λ (k : Cie). k.at) _ c.args.place (sorted_by (λ (k : Cie). k.at) _ c.requires) in
    let point = IsPartitionPoint-from_clause (λ (k : Cie). ltb k.at c.args.place) _ _ c.partition_point.ensures.partitioned parted (λ a r q k. search rules) in
    stand_below (λ (k : Cie). k.at) _ _ _ c.partition_point.ensures.bound point
