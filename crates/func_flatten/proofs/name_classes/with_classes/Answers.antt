use Rattle.std.proofs.Common.{◌<◌, [], length, get_or, sym, subst, arith}
use Rattle.std.proofs.lemmas.List.{get_or_default, take_all}
use Rattle.step_maps.specs.declared.stretch.Stretch.{Stretch}
use Rattle.func_flatten.specs.internal.Classes.{number_name}
use Rattle.func_flatten.specs.internal.NameClasses.{class_at, AreClassed}
use Rattle.func_flatten.proofs.NameLemmas.{class_next, class_ends, stays_same, classes_by, held_numbers}
use Rattle.func_flatten.proofs.name_classes.with_classes.Goals as goal

pub stretches-init : goal.stretches-init
stretches-init c =
    let name = number_name c.args.units.now c.args.places.now in
    record {
      fronts = c.new-scopes.ensures c.args.units.now;
      held = c.new-classes.ensures c.args.units.now name;
      named = subst (AreClassed (class_at name c.new-classes.result) name []) (sym c.in_ok-named.ensures.items) tt;
    }

pub stretches-preserved-in-Some : goal.stretches-preserved-in-Some
stretches-preserved-in-Some c =
    let name = number_name c.args.units.now c.args.places.now in
    let number = class_at name c.stretches.classes in
    let at = c.stretches.at in
    let inside : at < length c.args.stretches.now = omega arith in
    let s : Stretch = get_or c.args.stretches.now at (record { first = 0; last = 0; index = 0; class = 0 }) in
    let here = get_or_default c.args.stretches.now at (record { first = 0; last = 0; index = 0; class = 0 }) s inside in
    record {
      fronts = c.stretches.invariant.fronts;
      held = c.stretches.invariant.held;
      named = class_next number number name c.args.stretches.now _ _ at s _ c.in-Some.class inside here (stays_same number) c.classed.ensures c.in_ok-push.ensures.items
          (class_ends number name _ _ s.index c.in-Some.class (rw c.as_slice.ensures.value at c.in-Some.ensures) c.stretches.invariant.named) c.stretches.invariant.named;
    }

pub stretches-preserved : goal.stretches-preserved
stretches-preserved c =
    let name = number_name c.args.units.now c.args.places.now in
    let at = c.stretches.at in
    let inside : at < length c.args.stretches.now = omega arith in
    let s : Stretch = get_or c.args.stretches.now at (record { first = 0; last = 0; index = 0; class = 0 }) in
    let here = get_or_default c.args.stretches.now at (record { first = 0; last = 0; index = 0; class = 0 }) s inside in
    record {
      fronts = c.in_ok-key.ensures.fronts;
      held = c.in_ok-class.ensures.grows.held;
      named = class_next (class_at name c.stretches.classes) (class_at name c.class.new.self) name c.args.stretches.now _ _ at s _ c.in_ok-class.class inside here c.in_ok-class.ensures.grows.stays c.classed-in-stretches.ensures c.in_ok-push-2.ensures.items
          c.in_ok-class.ensures.class c.stretches.invariant.named;
    }

pub returns : goal.returns
returns c =
    let name = number_name c.args.units.now c.args.places.now in
    let number = class_at name c.stretches.classes in
    let named = subst (λ l. AreClassed number name l c.stretches.named.items) (take_all c.stretches.at c.args.stretches.now (omega arith)) c.stretches.invariant.named in
    classes_by name c.args.stretches.now c.stretches.named.items (number, held_numbers c.args.units.now name c.stretches.classes c.stretches.invariant.held, named)
