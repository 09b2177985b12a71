use Rattle.std.proofs.Common.{rules}
use Rattle.std.proofs.lemmas.List.Sorted.{answers_always, IsNonDecreasingBy-from_sort_by_key}
use Rattle.inline_chain.proofs.ClassLemmas.{same_sorted, sorted_of, fit_sorted}
use Rattle.inline_chain.proofs.groups.sort_by_class.Goals as goal

pub returns-clause-same : goal.returns-clause-same
returns-clause-same c = same_sorted _ _ (c.in_ok-sort_by_key.ensures.stable (λ s. s.class) (answers_always _ _ _ (λ f a r g h. search rules)))

pub returns-clause-sorted : goal.returns-clause-sorted
returns-clause-sorted c = sorted_of _ (IsNonDecreasingBy-from_sort_by_key (λ s. s.class) _ c.in_ok-sort_by_key.ensures.sorted (λ a r q k. search rules))

pub returns-clause-fit : goal.returns-clause-fit
returns-clause-fit c = fit_sorted _ _ c.in_ok-sort_by_key.ensures.permutation
