use Rattle.std.proofs.Common.{arith, ap, length}
use Rattle.inline_chain.proofs.ClassLemmas.{counted_none, counted_one, counted_other}
use Rattle.inline_chain.proofs.groups.front_count.Goals as goal

pub returns-then-item-class : goal.returns-then-item-class
returns-then-item-class c = counted_other _ _ _ _ _ _ c.in-Some.ensures.cases.0 c.if-item-class.true c.items.invariant.counted

pub items-preserved : goal.items-preserved
items-preserved c = record {
  counted = counted_one _ _ _ _ _ _ c.in-Some.ensures.cases.0 c.if-item-class.false c.items.invariant.counted;
  inside = omega (arith, ap length c.in-Some.ensures.cases.0, c.items.invariant.inside);
}

pub returns : goal.returns
returns c = counted_none _ _ _ _ c.in_default.ensures.cases c.items.invariant.counted
