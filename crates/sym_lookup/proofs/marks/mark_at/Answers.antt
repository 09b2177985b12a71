use Rattle.std.proofs.Common.{nat_le, nat_lt, get_or, ◌-◌, rules, arith}
use Rattle.std.proofs.lemmas.List.Sorted.{IsPartitionPoint-from_clause, IsPartitionedBy-leb, IsPartitionedBy-ltb}
use Rattle.sym_lookup.specs.declared.marks.Mark.{Mark}
use Rattle.sym_lookup.proofs.MarkLemmas.{IsCount, IsFirst, search_none, search_within, search_some}
use Rattle.sym_lookup.proofs.marks.mark_at.Goals as goal

abbrev zero_mark : Mark
zero_mark = record { key = 0; place = 0 }

pub returns-then-count-eq0 : goal.returns-then-count-eq0
returns-then-count-eq0 c =
    let count : IsCount c.args.marks.now c.args.key c.partition_point-count.result
    = IsPartitionPoint-from_clause (λ m. nat_le m.key c.args.key) _ _ c.partition_point-count.ensures.partitioned (IsPartitionedBy-leb (λ m. m.key) _ _ c.requires) (λ a r q k. search rules) in
    search_none _ _ _ count (omega arith)

pub bounds-marks-first : goal.bounds-marks-first
bounds-marks-first c =
    let first : IsFirst c.args.marks.now (get_or c.args.marks.now (c.partition_point-count.result - 1) zero_mark).key c.partition_point-first.result
    = IsPartitionPoint-from_clause (λ m. nat_lt m.key (get_or c.args.marks.now (c.partition_point-count.result - 1) zero_mark).key) _ _ c.partition_point-first.ensures.partitioned (IsPartitionedBy-ltb (λ m. m.key) _ _ c.requires) (λ a r q k. search rules) in
    search_within _ _ _ zero_mark (omega arith) (omega arith) first

pub returns : goal.returns
returns c =
    let count : IsCount c.args.marks.now c.args.key c.partition_point-count.result
    = IsPartitionPoint-from_clause (λ m. nat_le m.key c.args.key) _ _ c.partition_point-count.ensures.partitioned (IsPartitionedBy-leb (λ m. m.key) _ _ c.requires) (λ a r q k. search rules) in
    let first : IsFirst c.args.marks.now (get_or c.args.marks.now (c.partition_point-count.result - 1) zero_mark).key c.partition_point-first.result
    = IsPartitionPoint-from_clause (λ m. nat_lt m.key (get_or c.args.marks.now (c.partition_point-count.result - 1) zero_mark).key) _ _ c.partition_point-first.ensures.partitioned (IsPartitionedBy-ltb (λ m. m.key) _ _ c.requires) (λ a r q k. search rules) in
    search_some _ _ _ _ zero_mark c.requires count (omega arith) (omega arith) first
