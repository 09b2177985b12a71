use Rattle.std.proofs.Common.{◌≡◌, length}
use Rattle.die_walk.specs.internal.Near.{AreNear}
use Rattle.die_walk.proofs.scopes.list_scopes.Given as goal

abbrev pub invariant-entries : goal.invariant-entries
invariant-entries l = record {
  long : length l.near.items ≡ l.entry;
  right : AreNear l.entries.dies l.near.items;
}
