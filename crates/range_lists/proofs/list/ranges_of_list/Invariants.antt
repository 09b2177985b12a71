use Rattle.std.proofs.Common.{◌≡◌, ℕ, length}
use Rattle.range_set.specs.Members.{holds_any}
use Rattle.range_lists.specs.ListPairs.{list_pairs}
use Rattle.range_lists.specs.EntryRanges.{in_ranges}
use Rattle.range_lists.proofs.PairLemmas.{with_gathered}
use Rattle.range_lists.proofs.list.ranges_of_list.Given as goal

abbrev pub invariant-items : goal.invariant-items
invariant-items l =
    (a : ℕ) → with_gathered l.code (holds_any l.gathering a) (list_pairs l.version l.addresses l.base l.cursor) a
    ≡ in_ranges l.code (list_pairs l.version l.addresses l.initial.base l.initial.cursor) a

abbrev pub decreases-items : goal.decreases-items
decreases-items l = length l.cursor.bytes
