use Rattle.std.proofs.Common.{◌≡◌, ◌++◌}
use Rattle.die_names.specs.internal.Gathering.{scopes_of}
use Rattle.die_names.proofs.joined_name.scopes_around.Given as goal

abbrev pub invariant-around : goal.invariant-around
invariant-around l = l.numbers.items ++ scopes_of l.dies l.limit ≡ scopes_of l.dies l.entry

abbrev pub decreases-around : goal.decreases-around
decreases-around l = l.limit
