use Rattle.debug_read.proofs.PickLemmas.{Picks}
use Rattle.debug_read.proofs.units.pick_read.Given as goal

abbrev pub invariant-units : goal.invariant-units
invariant-units l = Picks l.units l.unit-index l.read.items
