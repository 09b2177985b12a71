use Rattle.std.proofs.Common.{◌≡◌, ◌+◌, length}
use Rattle.inline_chain.specs.internal.Copies.{front_count}
use Rattle.inline_chain.proofs.groups.front_count.Given as goal

abbrev pub invariant-items : goal.invariant-items
invariant-items l = record {
  counted : l.count + front_count l.class l.rest ≡ front_count l.class l.items;
  inside : l.count + length l.rest ≡ length l.items;
}

abbrev pub decreases-items : goal.decreases-items
decreases-items l = length l.rest
