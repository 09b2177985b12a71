use Rattle.std.proofs.Common.{List, sym, subst, IsPermutation}
use Rattle.step_maps.specs.declared.stretch.Stretch.{Stretch}
use Rattle.step_maps.specs.Covers.{AreStretches}
use Rattle.module_stacks.specs.internal.ModuleStretches.{Fall}
use Rattle.module_stacks.proofs.ModuleLemmas.{moved_stretches, module_map}
use Rattle.module_stacks.proofs.module_map.ModuleMap.of.Goals as goal

pub first_items-requires : goal.first_items-requires
first_items-requires c = subst AreStretches (sym c.as_slice.ensures.value) (moved_stretches _ _ c.put_in_order.ensures.moved c.in_ok-stretches.ensures.some)

pub invariant_of-result : goal.invariant_of-result
invariant_of-result c =
    let listed : List Stretch = c.in_ok-stretches.stretches.items in
    module_map c.args.modules.now listed c.as_slice.result.now c.in_ok-tops.tops c.in_ok-stretches.ensures.all
    (subst (IsPermutation listed) (sym c.as_slice.ensures.value) c.put_in_order.ensures.moved)
    (subst Fall (sym c.as_slice.ensures.value) c.put_in_order.ensures.order)
    c.in_ok-tops.ensures
