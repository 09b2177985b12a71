use Rattle.std.proofs.Common.{◌∙◌}
use Rattle.range_union.proofs.RangeLemmas.{grown_apart, grown_more}
use Rattle.range_union.proofs.ranges.put_range.Goals as goal

pub returns-clause-apart : goal.returns-clause-apart
returns-clause-apart c = grown_apart c.met.first c.met.last c.args.start c.args.end c.args.ends.now.entries c.met.ends.entries c.take_met.new.ends.entries c.insert.new.self.entries c.met.invariant c.in_default.ensures.taken.0 c.in_default.ensures.taken.1 c.in_ok-insert.ensures.entries

pub returns-clause-more : goal.returns-clause-more
returns-clause-more c = grown_more c.met.first c.met.last c.args.start c.args.end c.args.ends.now.entries c.met.ends.entries c.take_met.new.ends.entries c.insert.new.self.entries c.met.invariant c.in_default.ensures.taken.0 c.in_default.ensures.taken.1 c.in_ok-insert.ensures.entries

pub returns-clause-no_other : goal.returns-clause-no_other
returns-clause-no_other c = λ a b less none. grown_more c.met.first c.met.last c.args.start c.args.end c.args.ends.now.entries c.met.ends.entries c.take_met.new.ends.entries c.insert.new.self.entries c.met.invariant c.in_default.ensures.taken.0 c.in_default.ensures.taken.1 c.in_ok-insert.ensures.entries a b less ∙ none
