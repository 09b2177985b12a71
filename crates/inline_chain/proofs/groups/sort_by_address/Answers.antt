use Rattle.std.proofs.Common.{rules}
use Rattle.std.proofs.lemmas.List.Sorted.{answers_always, IsNonDecreasingBy-from_sort_by_key}
use Rattle.inline_chain.specs.InlineRuns.{first_address}
use Rattle.inline_chain.proofs.OrderLemmas.{sorted_spans, sorted_level, sorted_ordered}
use Rattle.inline_chain.proofs.groups.sort_by_address.Goals as goal

pub returns-clause-same : goal.returns-clause-same
returns-clause-same c = sorted_spans _ _ _ c.requires
    (IsNonDecreasingBy-from_sort_by_key (λ r. first_address r.spans) _ c.in_ok-sort_by_key.ensures.sorted (λ a r q k. search rules))
    (c.in_ok-sort_by_key.ensures.stable (λ r. first_address r.spans) (answers_always _ _ _ (λ f a r g h. search rules)))

pub returns-clause-level : goal.returns-clause-level
returns-clause-level c = sorted_level _ _ _ c.in_ok-sort_by_key.ensures.permutation

pub returns-clause-sorted : goal.returns-clause-sorted
returns-clause-sorted c = sorted_ordered _ _ _ c.in_ok-sort_by_key.ensures.permutation
    (IsNonDecreasingBy-from_sort_by_key (λ r. first_address r.spans) _ c.in_ok-sort_by_key.ensures.sorted (λ a r q k. search rules))
