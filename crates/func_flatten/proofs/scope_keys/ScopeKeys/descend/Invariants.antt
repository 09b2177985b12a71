use Rattle.std.proofs.Common.{length}
use Rattle.func_flatten.specs.internal.ScopeFronts.{unit_dies}
use Rattle.func_flatten.specs.internal.NameKeys.{AreFronts, IsHalfway}
use Rattle.func_flatten.proofs.scope_keys.ScopeKeys.descend.Given as goal

abbrev pub invariant-inner : goal.invariant-inner
invariant-inner l = record {
  fronts : AreFronts l.units l.self.known;
  halfway : IsHalfway l.units (unit_dies l.units l.unit) l.entry l.numbers.items l.key;
}

abbrev pub decreases-inner : goal.decreases-inner
decreases-inner l = length l.numbers.items
