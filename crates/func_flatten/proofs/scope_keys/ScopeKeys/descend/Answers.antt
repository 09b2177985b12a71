use Rattle.std.proofs.Common.{◌≡◌, [], arith}
use Rattle.std.proofs.lemmas.List.{nil_from_length}
use Rattle.func_flatten.specs.internal.ScopeFronts.{outer_front}
use Rattle.func_flatten.proofs.FrontLemmas.{half_outer, half_more, half_end, key_inner, fronts_more}
use Rattle.func_flatten.proofs.scope_keys.ScopeKeys.descend.Goals as goal

pub inner-preserved : goal.inner-preserved
inner-preserved c =
    let units = c.args.units.now in
    let number = c.in-Some.number in
    let outside = half_outer units c.args.unit c.args.entry number c.inner.numbers.items c.pop.new.self.items c.inner.key c.in-Some.ensures.items c.inner.invariant.halfway in
    let inside = c.rooted-key.ensures units (key_inner units c.args.unit number c.with_front-inside.result (c.with_front-inside.ensures (outer_front units c.args.unit number) outside)) in
    record {
      fronts = fronts_more units c.inner.self.known c.insert.new.self c.args.unit number c.place_of.result c.rooted-key.result c.inner.invariant.fronts c.place_of.ensures.fits.1 c.place_of.ensures.place inside c.in_ok-insert.ensures.updates;
      halfway = half_more units c.args.unit c.args.entry number c.inner.numbers.items c.pop.new.self.items c.inner.key c.rooted-key.result c.in-Some.ensures.items c.inner.invariant.halfway inside;
    }

pub returns-clause-key : goal.returns-clause-key
returns-clause-key c =
    let none : c.inner.numbers.items ≡ [] = nil_from_length _ (omega (arith, c.in_default.ensures.cases, c.inner.numbers.ok.0)) in
    half_end c.args.units.now c.args.unit c.args.entry c.inner.numbers.items c.inner.key none c.inner.invariant.halfway
