use Rattle.std.proofs.Common.{◌≡◌, get_or, arith}
use Rattle.std.proofs.lemmas.Bool.Decides.{nat_tests}
use Rattle.inline_chain.proofs.TreeLemmas.{fit_class, lists_more, lists_none, lists_all}
use Rattle.inline_chain.proofs.trees.fill_lists.Goals as goal

pub push_covers-requires : goal.push_covers-requires
push_covers-requires c = rw (c.as_slice.ensures.value, c.in_ok-fill_class.ensures) (fit_class _ _ c.requires.fit)

pub classes-preserved : goal.classes-preserved
classes-preserved c = lists_more _ _ _ _ _ (rw c.in_ok-fill_class.ensures at c.as_slice.ensures.value) c.in_ok-push_covers.ensures c.classes.invariant

pub classes-preserved-then-index-eq0 : goal.classes-preserved-then-index-eq0
classes-preserved-then-index-eq0 c = lists_none _ _ _ _ _ _ 0 c.requires.linked (omega arith) (let none : get_or c.args.links.now.firsts.items c.classes.class 0 ≡ 0 = grind (arith, nat_tests) in none) c.in_ok-push.ensures.added c.classes.invariant

pub returns : goal.returns
returns c = lists_all _ _ _ _ (omega arith) c.requires.linked.below c.classes.invariant
