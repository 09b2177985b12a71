use Rattle.std.proofs.Common.{arith}
use Rattle.debug_read.specs.internal.Targets.{unit_targets}
use Rattle.debug_read.proofs.TargetLemmas.{all_pushed}
use Rattle.debug_read.proofs.sup_targets.push_units.Goals as goal

pub returns : goal.returns
returns c = all_pushed unit_targets c.args.places.now.items c.units.places.items c.args.units.now c.units.unit-index (omega arith) c.units.invariant
