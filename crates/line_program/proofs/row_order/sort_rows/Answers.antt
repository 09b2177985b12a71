use Rattle.std.proofs.Common.{rules}
use Rattle.std.proofs.lemmas.List.Sorted.{answers_always, IsNonDecreasingBy-from_sort_by_key}
use Rattle.line_program.proofs.SortLemmas.{row_same, sorted_of}
use Rattle.line_program.proofs.row_order.sort_rows.Goals as goal

pub returns-clause-same : goal.returns-clause-same
returns-clause-same c = row_same _ _ (c.in_ok-sort_by_key.ensures.stable (λ r. r.address) (answers_always _ _ _ (λ f a r g h. search rules)))

pub returns-clause-sorted : goal.returns-clause-sorted
returns-clause-sorted c = sorted_of _ (IsNonDecreasingBy-from_sort_by_key (λ r. r.address) _ c.in_ok-sort_by_key.ensures.sorted (λ a r q k. search rules))
