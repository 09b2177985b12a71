use Rattle.std.proofs.Common.{sym, ◌∙◌, arith, nat_le, rules}
use Rattle.std.proofs.lemmas.List.Sorted.{IsPartitionPoint-from_clause, IsPartitionedBy-leb}
use Rattle.sym_lookup.specs.internal.Risings.{line_end}
use Rattle.sym_lookup.proofs.RisingLemmas.{IsEnd, ends_rise, half_found, half_missed, half_past}
use Rattle.sym_lookup.proofs.line_runs.line_by_halves.Goals as goal

pub returns-then-at-records : goal.returns-then-at-records
returns-then-at-records c =
    let point : IsEnd c.args.records.now c.args.address c.partition_point-at.result
    = IsPartitionPoint-from_clause (λ s. nat_le (line_end s) c.args.address) _ _ c.partition_point-at.ensures.partitioned (IsPartitionedBy-leb line_end _ _ (ends_rise _ _ c.requires.rising)) (λ a r q k. search rules) in
    half_past _ _ _ _ point (omega arith)

pub returns-then-is_line_at : goal.returns-then-is_line_at
returns-then-is_line_at c =
    let point : IsEnd c.args.records.now c.args.address c.partition_point-at.result
    = IsPartitionPoint-from_clause (λ s. nat_le (line_end s) c.args.address) _ _ c.partition_point-at.ensures.partitioned (IsPartitionedBy-leb line_end _ _ (ends_rise _ _ c.requires.rising)) (λ a r q k. search rules) in
    half_found _ _ _ _ c.index-records-at.result point c.index-records-at.is c.if-at-records.false (sym c.is_line_at.ensures ∙ c.if-is_line_at.true)

pub returns : goal.returns
returns c =
    let point : IsEnd c.args.records.now c.args.address c.partition_point-at.result
    = IsPartitionPoint-from_clause (λ s. nat_le (line_end s) c.args.address) _ _ c.partition_point-at.ensures.partitioned (IsPartitionedBy-leb line_end _ _ (ends_rise _ _ c.requires.rising)) (λ a r q k. search rules) in
    half_missed _ _ _ _ c.index-records-at.result c.requires.rising point c.index-records-at.is c.if-at-records.false (sym c.is_line_at.ensures ∙ c.if-is_line_at.false)
