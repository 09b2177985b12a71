use Rattle.func_flatten.specs.internal.ScopeFronts.{unit_dies}
use Rattle.func_flatten.proofs.FrontLemmas.{half_top, half_known, front_known}
use Rattle.func_flatten.proofs.scope_keys.ScopeKeys.climb.Goals as goal

pub returns-in_default : goal.returns-in_default
returns-in_default c =
    half_top c.args.units.now (unit_dies c.args.units.now c.args.unit) c.args.entry c.around.at c.around.numbers.items c.empty-key.result c.around.invariant c.in_default.ensures.around (c.empty-key.ensures c.args.units.now)

pub returns-in-Some-get : goal.returns-in-Some-get
returns-in-Some-get c =
    half_known c.args.units.now c.args.unit c.args.entry c.around.at c.in-Some.number c.around.numbers.items c.in-Some-get.key.now c.around.invariant c.in-Some.ensures.around
    (front_known c.args.units.now c.args.self.now.known c.args.unit c.in-Some.number c.place_of.result c.in-Some-get.key.now c.requires c.place_of.ensures.fits.0 c.place_of.ensures.fits.1 c.place_of.ensures.place c.in-Some-get.ensures.value)
