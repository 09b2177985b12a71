use Rattle.std.proofs.Common.{◌≡◌, length}
use Rattle.inline_chain.specs.internal.Apart.{apart, apart_from}
use Rattle.inline_chain.proofs.cover_sweep.is_apart.Given as goal

abbrev pub invariant-items : goal.invariant-items
invariant-items l = apart l.items ≡ apart_from l.last l.rest

abbrev pub decreases-items : goal.decreases-items
decreases-items l = length l.rest
