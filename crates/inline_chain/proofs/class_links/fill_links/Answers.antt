use Rattle.std.proofs.Common.{◌∙◌, arith}
use Rattle.inline_chain.proofs.LinkLemmas.{zeros_are, links_begin, class_inside, links_few, links_more}
use Rattle.inline_chain.proofs.class_links.fill_links.Goals as goal

pub items-init : goal.items-init
items-init c = links_begin _ _ _ _ (zeros_are _ _ _ _ c.clear.ensures.items c.clear.ensures.len c.in_ok-resize.ensures.items) (c.in_ok-reserve.ensures.items ∙ c.clear-2.ensures.items) c.class_end.ensures

pub index-requires : goal.index-requires
index-requires c = omega (arith, class_inside _ _ _ _ _ _ c.in-Some.ensures.cases.0 c.items.invariant, c.items.links.firsts.ok.0)

pub overflow_cast-len : goal.overflow_cast-len
overflow_cast-len c = omega (arith, links_few _ _ _ _ _ _ c.in-Some.ensures.cases.0 c.items.invariant, c.in_ok-push.ensures.len, c.items.links.nexts.ok.0, c.len.ensures)

pub index_mut-requires : goal.index_mut-requires
index_mut-requires c = omega (arith, class_inside _ _ _ _ _ _ c.in-Some.ensures.cases.0 c.items.invariant, c.items.links.firsts.ok.0)

pub items-preserved : goal.items-preserved
items-preserved c = links_more _ _ _ _ _ _ _ _ _ _ c.in-Some.ensures.cases.0 c.index.ensures c.in_ok-push.ensures.items (omega (arith, c.len.ensures, c.push.new.self.ok.0)) c.items.invariant
