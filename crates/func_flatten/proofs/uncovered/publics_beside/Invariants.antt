use Rattle.std.proofs.Common.{◌≡◌, ◌++◌, ◌-◌, ◌≤◌, map, length, drop}
use Rattle.range_set.specs.Members.{holds_any}
use Rattle.func_flatten.specs.Publics.{publics_where, public_view}
use Rattle.func_flatten.proofs.PublicLemmas.{view, Goes}
use Rattle.func_flatten.proofs.uncovered.publics_beside.Given as goal

abbrev pub invariant-groups : goal.invariant-groups
invariant-groups l = record {
  made : map public_view l.publics.items ++ publics_where (holds_any l.spans) (view (drop l.at l.sorted)) ≡ publics_where (holds_any l.spans) (view l.sorted);
  goes : Goes l.spans l.rest (drop l.at l.sorted);
  inside : l.at ≤ length l.sorted;
}

abbrev pub decreases-groups : goal.decreases-groups
decreases-groups l = length l.sorted - l.at
