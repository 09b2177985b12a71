use Rattle.std.proofs.Common.{◌∙◌, sym}
use Rattle.range_union.proofs.RangeLemmas.{taken}
use Rattle.range_union.proofs.ranges.take_met.Goals as goal

pub returns-else-high-start-clause-taken : goal.returns-else-high-start-clause-taken
returns-else-high-start-clause-taken c = taken c.args.start c.args.end c.in-Some.low c.in-Some.high _ _ c.requires.apart (sym c.in-Some.is ∙ c.last_before.ensures) c.if-high-start.false c.remove.ensures.entries
