use Rattle.std.proofs.Common.{Bool, [], filter, ◌∙◌, ap, rules}
use Rattle.std.specs.Ordering.{nat_cmp, is_lt}
use Rattle.std.specs.List.Sorted.{ties}
use Rattle.std.proofs.lemmas.List.Sorted.{IsNonDecreasingBy-from_sort_by_key, answers_always}
use Rattle.elf_sections.specs.declared.symbols.Symbol.{Symbol}
use Rattle.func_flatten.proofs.PublicLemmas.{groups_kept, ordered}
use Rattle.func_flatten.proofs.uncovered.sorted_symbols.Goals as goal

pub returns-clause-order : goal.returns-clause-order
returns-clause-order c =
    ordered _ (IsNonDecreasingBy-from_sort_by_key (λ (s : Symbol). s.address) _ c.in_ok-sort_by_key.ensures.sorted (λ a r q k. search rules))

pub returns-clause-groups : goal.returns-clause-groups
returns-clause-groups c = λ a.
    let x : Symbol = record { address = a; name = record { ref_ptr = c.args.symbols.ref_ptr; now = [] } } in
    let by : Symbol → Symbol → Bool = λ p q. is_lt (nat_cmp p.address q.address) in
    groups_kept c.args.symbols.now c.sort_by_key.new.self.items x
    (c.in_ok-sort_by_key.ensures.stable (λ (s : Symbol). s.address) (answers_always _ _ _ (λ f b r g called. search rules)) x
    ∙ ap (filter (ties by x)) c.in_ok-sorted.ensures.items)
