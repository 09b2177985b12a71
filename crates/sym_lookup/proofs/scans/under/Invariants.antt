use Rattle.std.proofs.Common.{◌≡◌, ◌++◌, take, drop}
use Rattle.sym_meaning.specs.TextNames.{under}
use Rattle.sym_lookup.proofs.scans.under.Given as goal

abbrev pub invariant-records : goal.invariant-records
invariant-records l = under l.lines ≡ take l.at l.lines ++ under (drop l.at l.lines)
