use Rattle.std.proofs.Common.{List, Some, get_or, length, ap, subst, arith}
use Rattle.std.specs.List.{slice_get}
use Rattle.debug_units.specs.declared.unit_read.UnitRead.{UnitRead}
use Rattle.inline_chain.specs.internal.Copies.{TreeFor}
use Rattle.inline_chain.proofs.TreeLemmas.{trees_in_order}
use Rattle.inline_chain.proofs.trees.all_trees.Goals as goal

pub returns : goal.returns
returns g c =
    trees_in_order c.args.units.now c.in_ok-trees.trees.items
    (omega (arith, c.in_ok-trees.ensures.count, c.in_ok-trees.trees.ok.0, ap length c.as_slice-count.ensures.units))
    (λ k d below. subst (λ (us : List UnitRead). TreeFor (slice_get us k) (Some (get_or c.in_ok-trees.trees.items k d))) c.of-maker.ensures (c.in_ok-trees.ensures.each k d below))
