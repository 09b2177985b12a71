use Rattle.abbrev_units.specs.Places.{HasPlaces}
use Rattle.abbrev_units.proofs.abbrevs.find_places.Given as goal

abbrev pub invariant-places : goal.invariant-places
invariant-places l = HasPlaces l.places l.place l.list
