use Rattle.std.proofs.Common.{◌≡◌, ◌<◌, ◌+◌, ◌*◌, length, drop, get_or, subst, arith}
use Rattle.debug_units.specs.Owners.{covering_from}
use Rattle.func_flatten.proofs.CollectLemmas.{collected_none, collected_raised, unit_next, unit_there, entries_left}
use Rattle.func_flatten.proofs.functions.collect_all.Goals as goal

pub units-init : goal.units-init
units-init c = record {
  all = rw (c.new.ensures.items, c.new-2.ensures.items) (collected_none c.args.units.now);
  fit = rw c.new-2.ensures.items tt;
  count = omega (arith, c.new.ensures.len);
}

pub units-preserved : goal.units-preserved
units-preserved c =
    let inside : c.units.unit < length c.args.units.now = subst (λ units. c.units.unit < length units) c.as_slice-parts.ensures.units (omega arith) in
    let is : c.index-parts-unit.result ≡ get_or c.args.units.now c.units.unit c.index-parts-unit.result = subst (λ units. c.index-parts-unit.result ≡ get_or units c.units.unit c.index-parts-unit.result) c.as_slice-parts.ensures.units c.index-parts-unit.is in
    let left = entries_left c.units.unit c.args.units.now c.index-parts-unit.result inside is in
    let few = c.as_slice-parts.ensures.read.few_entries in
    record {
      all =
          collected_raised _ _ _ (c.units.unit * 4294967296 + length c.index-parts-unit.result.die.dies) ((c.units.unit + 1) * 4294967296) _ (omega (arith, left, few, c.units.invariant.count))
          (c.in_ok-push_unit.ensures.all (covering_from (c.units.unit + 1) (drop (c.units.unit + 1) c.args.units.now)) (unit_next _ _ _ _ c.units.unit c.index-parts-unit.result inside is c.units.invariant.all));
      fit = c.in_ok-push_unit.ensures.fit;
      count = omega (arith, left, c.in_ok-push_unit.ensures.count, c.units.invariant.count);
    }

pub push_unit-requires-clause-part : goal.push_unit-requires-clause-part
push_unit-requires-clause-part c =
    unit_there c.args.units.now c.units.unit c.index-parts-unit.result
    (subst (λ units. c.units.unit < length units) c.as_slice-parts.ensures.units (omega arith))
    (subst (λ units. c.index-parts-unit.result ≡ get_or units c.units.unit c.index-parts-unit.result) c.as_slice-parts.ensures.units c.index-parts-unit.is)
