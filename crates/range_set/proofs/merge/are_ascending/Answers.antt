use Rattle.std.proofs.Common.{nat_le, rules}
use Rattle.std.proofs.lemmas.List.Sorted.{answers_always}
use Rattle.range_set.proofs.JoinLemmas.{ascending_found}
use Rattle.range_set.proofs.merge.are_ascending.Goals as goal

pub returns : goal.returns
returns c = ascending_found _ _ (c.is_sorted_by.ensures.cases (λ x y. nat_le x.start y.start) (answers_always _ _ _ (λ f a r g h. search rules)))
