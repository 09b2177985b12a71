use Rattle.func_flatten.specs.internal.ScopeFronts.{unit_dies}
use Rattle.func_flatten.proofs.FrontLemmas.{outer_past}
use Rattle.func_flatten.proofs.scope_keys.outer_of.Goals as goal

pub returns-then-number-entry-clause-around : goal.returns-then-number-entry-clause-around
returns-then-number-entry-clause-around c = outer_past (unit_dies c.args.units.now c.args.unit) c.args.entry c.in_ok-number.number c.in_ok-die.die c.in_ok-die.ensures c.in_ok-number.ensures c.if-number-entry.true
