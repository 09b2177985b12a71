use Rattle.std.proofs.Common.{◌∙◌, ap, rules}
use Rattle.std.proofs.lemmas.List.Sorted.{answers_always, IsNonDecreasingBy-from_sort_by_key}
use Rattle.sym_lookup.specs.NearestMarks.{mark_at}
use Rattle.sym_lookup.proofs.MarkLemmas.{mark_same}
use Rattle.sym_lookup.proofs.marks.sorted_marks.Goals as goal

pub returns-clause-same : goal.returns-clause-same
returns-clause-same c =
    λ x. mark_same _ _ (c.in_ok-sort_by_key.ensures.stable (λ m. m.key) (answers_always _ _ _ (λ f a r g h. search rules))) x ∙ ap (λ ms. mark_at ms x) c.in_ok-marks.ensures

pub returns-clause-sorted : goal.returns-clause-sorted
returns-clause-sorted c = IsNonDecreasingBy-from_sort_by_key (λ m. m.key) _ c.in_ok-sort_by_key.ensures.sorted (λ a r q k. search rules)
