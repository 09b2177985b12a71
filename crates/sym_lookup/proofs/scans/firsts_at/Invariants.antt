use Rattle.std.proofs.Common.{◌+◌, drop}
use Rattle.sym_lookup.specs.internal.Scans.{AreFirsts}
use Rattle.sym_lookup.proofs.scans.firsts_at.Given as goal

abbrev pub invariant-records : goal.invariant-records
invariant-records l = AreFirsts (l.first + l.at) l.address (drop l.at l.records) l.firsts.items
