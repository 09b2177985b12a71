use Rattle.std.proofs.Common.{◌≡◌}
use Rattle.die_walk.specs.Scopes.{scope_around}
use Rattle.die_walk.proofs.scopes.scope_from.Given as goal

abbrev pub invariant-around : goal.invariant-around
invariant-around l = scope_around l.entries.dies l.limit l.next ≡ scope_around l.entries.dies l.entry l.fn.parent

abbrev pub decreases-around : goal.decreases-around
decreases-around l = l.limit
