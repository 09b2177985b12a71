use Rattle.std.proofs.Common.{nat_le, rules, subst, sym, refl}
use Rattle.std.proofs.lemmas.List.Sorted.{IsPartitionPoint-from_clause}
use Rattle.line_program.specs.LineMaps.{no_line}
use Rattle.line_program.specs.internal.RowsAbove.{Parts}
use Rattle.line_program.proofs.PaintLemmas.{Above, parted_above, parts_none, parts_some}
use Rattle.line_program.proofs.line_map.rows_above.Goals as goal

pub returns-then-count-eq0 : goal.returns-then-count-eq0
returns-then-count-eq0 c =
    let point : Above c.args.rows.now c.args.start c.partition_point-count.result
    = IsPartitionPoint-from_clause (λ r. nat_le r.address c.args.start) _ _ c.partition_point-count.ensures.partitioned (parted_above _ _ c.requires) (λ a r q k. search rules) in
    subst (Parts c.args.first c.args.files c.args.rows.now c.args.start no_line) (sym c.split_at.ensures.back)
    (parts_none c.args.first c.args.files c.args.rows.now c.args.start c.partition_point-count.result c.requires point c.if-count-eq0.true)

pub returns : goal.returns
returns c =
    let point : Above c.args.rows.now c.args.start c.partition_point-count.result
    = IsPartitionPoint-from_clause (λ r. nat_le r.address c.args.start) _ _ c.partition_point-count.ensures.partitioned (parted_above _ _ c.requires) (λ a r q k. search rules) in
    subst (Parts c.args.first c.args.files c.args.rows.now c.args.start c.line_of.result) (sym c.split_at.ensures.back)
    (parts_some c.args.first c.args.files c.args.rows.now c.args.start c.partition_point-count.result c.line_of.result _ _ c.requires point c.if-count-eq0.false c.partition_point-count.ensures.bound refl c.line_of.ensures)
