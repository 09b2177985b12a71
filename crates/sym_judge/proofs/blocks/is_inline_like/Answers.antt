use Rattle.sym_judge.proofs.BlockLemmas.{inline_like}
use Rattle.sym_judge.proofs.blocks.is_inline_like.Goals as goal

pub returns-then-are_same_ranges : goal.returns-then-are_same_ranges
returns-then-are_same_ranges c =
    inline_like c.args.both.now.own c.args.both.now.other c.args.found.now c.args.level c.args.site.line c.args.site.file c.args.site.origin c.in-Inline.depth c.in-Inline.line c.in-Inline.file c.in-Inline.origin c.args.ranges.now c.in-Inline.extents
    c.as_slice.result.now c.are_same_ranges.result c.is_same_site.result c.in-Inline.is c.as_slice.ensures c.are_same_ranges.ensures c.if-are_same_ranges.true c.is_same_site.ensures
