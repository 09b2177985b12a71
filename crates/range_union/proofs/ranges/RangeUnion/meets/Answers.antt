use Rattle.std.proofs.Common.{◌∙◌, ap, sym}
use Rattle.range_union.specs.Ranges.{any_overlap, range_to}
use Rattle.range_union.proofs.RangeLemmas.{overlaps_last, overlaps_none}
use Rattle.range_union.proofs.ranges.RangeUnion.meets.Goals as goal

pub returns-in-Some : goal.returns-in-Some
returns-in-Some c =
    overlaps_last (range_to c.args.start c.args.end) c.in-Some.field-0-0 c.in-Some.last c.self.inside.ends.entries c.self.invariant (sym c.in-Some.is ∙ c.last_before.ensures)
    ∙ ap (any_overlap (range_to c.args.start c.args.end)) c.self.view_is

pub returns-in-None : goal.returns-in-None
returns-in-None c =
    overlaps_none (range_to c.args.start c.args.end) c.self.inside.ends.entries c.self.invariant (sym c.in-None.is ∙ c.last_before.ensures)
    ∙ ap (any_overlap (range_to c.args.start c.args.end)) c.self.view_is
