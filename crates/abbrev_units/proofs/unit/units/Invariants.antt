use Rattle.std.proofs.Common.{length}
use Rattle.leb_cursor.specs.Lists.{list_at}
use Rattle.abbrev_units.specs.Units.{next_unit}
use Rattle.abbrev_units.proofs.BehindLemmas.{Behind}
use Rattle.abbrev_units.proofs.unit.units.Given as goal

abbrev pub invariant-units : goal.invariant-units
invariant-units l = Behind next_unit l.units.items l.cursor (list_at next_unit (record { bytes = l.info; at = 0 }))

abbrev pub decreases-units : goal.decreases-units
decreases-units l = length l.cursor.bytes
