use Rattle.abbrev_units.specs.UnitPlaces.{read_units}
use Rattle.debug_read.proofs.units.read_parts.Goals as goal

pub returns : goal.returns
returns g c = c.settle_units.ensures (read_units c.args.headers.now) c.in_ok-found.ensures
