use Rattle.range_union.proofs.RangeLemmas.{below_is, last_of_kept, none_kept}
use Rattle.range_union.proofs.ranges.last_before.Goals as goal

pub returns-in-Some : goal.returns-in-Some
returns-in-Some c = last_of_kept _ c.args.below c.args.ends.now.entries c.range.result c.next_back.new.self (c.in-Some.start.now, c.in-Some.end.now) (λ e. below_is c.args.below e.0) (c.range.ensures.between tt) c.in-Some.ensures.steps

pub returns-in-None : goal.returns-in-None
returns-in-None c = none_kept _ c.args.below c.args.ends.now.entries c.range.result (λ e. below_is c.args.below e.0) (c.range.ensures.between tt) c.in-None.ensures.steps.0
