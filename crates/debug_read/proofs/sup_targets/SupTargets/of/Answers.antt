use Rattle.std.proofs.Common.{take, ap, ◌∙◌}
use Rattle.std.proofs.lemmas.List.Sorted.{IsNonDecreasingBy-from_sort}
use Rattle.debug_read.proofs.TargetLemmas.{front_targets}
use Rattle.debug_read.proofs.sup_targets.SupTargets.of.Goals as goal

pub invariant_of-result : goal.invariant_of-result
invariant_of-result c = IsNonDecreasingBy-from_sort (λ x. x) _ c.sort_unstable.ensures.sorted

pub returns : goal.returns
returns c = front_targets c.args.units.now _ c.args.count _ _ _ (c.first_units.ensures ∙ ap (take c.args.count) c.as_slice.ensures.units) c.new-places.ensures.items c.in_ok-push_units.ensures c.sort_unstable.ensures.permutation
