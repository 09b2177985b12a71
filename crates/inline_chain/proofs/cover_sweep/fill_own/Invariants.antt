use Rattle.std.proofs.Common.{◌≡◌, ◌++◌, map, length}
use Rattle.inline_chain.specs.internal.Apart.{own_cover}
use Rattle.inline_chain.proofs.cover_sweep.fill_own.Given as goal

abbrev pub invariant-items : goal.invariant-items
invariant-items l = l.covers.items ++ map own_cover l.rest ≡ map own_cover l.initial.rest

abbrev pub decreases-items : goal.decreases-items
decreases-items l = length l.rest
