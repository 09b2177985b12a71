use Rattle.std.proofs.Common.{◌≡◌, length, max}
use Rattle.sym_meaning.specs.TextNames.{level_count}
use Rattle.sym_lookup.proofs.scans.level_count.Given as goal

abbrev pub invariant-records : goal.invariant-records
invariant-records l = max l.count (level_count l.rest) ≡ level_count l.records

abbrev pub decreases-records : goal.decreases-records
decreases-records l = length l.rest
