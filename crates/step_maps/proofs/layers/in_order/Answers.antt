use Rattle.std.proofs.lemmas.List.{nil_from_length}
use Rattle.step_maps.proofs.LayingLemmas.{order_empty, order_begins, order_more, order_ends}
use Rattle.step_maps.proofs.layers.in_order.Goals as goal

pub returns-in_default : goal.returns-in_default
returns-in_default c = λ a fits. order_empty _ _ a (nil_from_length _ c.in_default.ensures.cases) c.in_ok-steps.ensures

pub items-init : goal.items-init
items-init c = order_begins _ _ _ _ _ c.in-Some.ensures.cases.0 c.requires.all c.requires.up c.in_ok-steps.ensures c.in_ok-lay_behind.ensures.at c.in_ok-lay_behind.ensures.last

pub items-preserved : goal.items-preserved
items-preserved c =
    order_more _ _ _ _ _ _ (rw c.in-Some-split_first.ensures.cases.0 at c.items.invariant) c.in_ok-lay_behind-2.ensures.at c.in_ok-lay_behind-2.ensures.last

pub returns : goal.returns
returns c = order_ends _ _ _ _ c.items.invariant (nil_from_length _ c.in_default-split_first.ensures.cases)
