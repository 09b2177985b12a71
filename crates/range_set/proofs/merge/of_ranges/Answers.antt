use Rattle.range_set.proofs.JoinLemmas.{members_permuted}
use Rattle.range_set.proofs.merge.of_ranges.Goals as goal

pub returns-in_ok-sorted-in_default-clause-members : goal.returns-in_ok-sorted-in_default-clause-members
returns-in_ok-sorted-in_default-clause-members c =
    members_permuted c.of_sorted-in_default.result c.args.spans.now c.as_slice.result.now (rw c.as_slice.ensures.value c.in_ok-sorted-in_default.ensures.permutation) c.of_sorted-in_default.ensures.members
