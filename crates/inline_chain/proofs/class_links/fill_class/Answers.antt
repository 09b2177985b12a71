use Rattle.std.proofs.Common.{ap, length, arith}
use Rattle.inline_chain.proofs.LinkLemmas.{many_nexts, walk_inside, walk_more, walk_ends}
use Rattle.inline_chain.proofs.class_links.fill_class.Goals as goal

pub overflow_sub-items : goal.overflow_sub-items
overflow_sub-items c = walk_inside _ _ _ _ c.places.invariant

pub bounds-items-items : goal.bounds-items-items
bounds-items-items c = omega (arith, walk_inside _ _ _ _ c.places.invariant)

pub index-requires-in-places : goal.index-requires-in-places
index-requires-in-places c =
    omega (arith, walk_inside _ _ _ _ c.places.invariant, ap length c.requires.linked.nexts_are, many_nexts c.args.items.now, c.args.links.now.nexts.ok.0)

pub places-smaller : goal.places-smaller
places-smaller c =
    (walk_more _ _ _ _ _ _ _ _ _ (omega arith) c.requires.linked.nexts_are c.in_ok-push.ensures.items c.index-in-places.ensures c.places.invariant).1

pub places-preserved : goal.places-preserved
places-preserved c =
    (walk_more _ _ _ _ _ _ _ _ _ (omega arith) c.requires.linked.nexts_are c.in_ok-push.ensures.items c.index-in-places.ensures c.places.invariant).0

pub returns : goal.returns
returns c = walk_ends _ _ _ _ (omega arith) c.places.invariant
