use Rattle.std.proofs.Common.{ℕ, rules}
use Rattle.std.specs.declared.cmp.Reverse.{Reverse}
use Rattle.std.proofs.lemmas.List.Sorted.{answers_always}
use Rattle.step_maps.specs.declared.stretch.Stretch.{Stretch}
use Rattle.module_stacks.proofs.ModuleLemmas.{fall_sorted}
use Rattle.module_stacks.proofs.module_map.put_in_order.Goals as goal

pub returns-clause-order : goal.returns-clause-order
returns-clause-order c =
    let key : Stretch → Reverse (ℕ × ℕ) = λ s. record { 0 = (s.first, s.index) } in
    fall_sorted _ (c.sort_unstable_by_key.ensures.sorted key (answers_always _ _ _ (λ f a r g h. search rules)))
