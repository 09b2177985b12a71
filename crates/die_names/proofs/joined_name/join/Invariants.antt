use Rattle.std.proofs.Common.{◌≡◌, ◌++◌, length}
use Rattle.die_names.specs.Names.{fronts}
use Rattle.die_names.specs.internal.Gathering.{scopes_of}
use Rattle.die_names.proofs.joined_name.join.Given as goal

abbrev pub invariant-scopes : goal.invariant-scopes
invariant-scopes l = l.text.items ++ fronts l.dies l.numbers.items ≡ fronts l.dies (scopes_of l.dies l.entry)

abbrev pub decreases-scopes : goal.decreases-scopes
decreases-scopes l = length l.numbers.items
