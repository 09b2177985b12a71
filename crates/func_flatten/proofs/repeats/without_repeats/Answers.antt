use Rattle.std.proofs.Common.{◌≡◌, ◌<◌, length, get_or, arith}
use Rattle.std.proofs.lemmas.List.{get_or_default}
use Rattle.step_maps.specs.declared.stretch.Stretch.{Stretch}
use Rattle.func_flatten.specs.internal.Classes.{number_name}
use Rattle.func_flatten.proofs.RepeatLemmas.{kept_next, repeat_next, fit_next, own_next}
use Rattle.func_flatten.proofs.repeats.without_repeats.Goals as goal

pub stretches-preserved-then-is_repeat : goal.stretches-preserved-then-is_repeat
stretches-preserved-then-is_repeat c =
    let items = c.args.stretches.now in
    let at = c.stretches.at in
    let inside : at < length items = omega arith in
    let s : Stretch = get_or items at (record { first = 0; last = 0; index = 0; class = 0 }) in
    let here : s ≡ get_or items at s = get_or_default items at (record { first = 0; last = 0; index = 0; class = 0 }) s inside in
    record {
      represents = repeat_next (number_name c.args.units.now c.args.places.now) items c.stretches.kept.items at s inside here (rw c.split_at.ensures.front at (c.is_repeat.ensures c.if-is_repeat.true)) c.stretches.invariant.represents;
      fit = c.stretches.invariant.fit;
      own = c.stretches.invariant.own;
    }

pub stretches-preserved : goal.stretches-preserved
stretches-preserved c =
    let items = c.args.stretches.now in
    let at = c.stretches.at in
    let inside : at < length items = omega arith in
    let s : Stretch = get_or items at (record { first = 0; last = 0; index = 0; class = 0 }) in
    let here : s ≡ get_or items at s = get_or_default items at (record { first = 0; last = 0; index = 0; class = 0 }) s inside in
    rw c.in_ok-push.ensures.items
    (record {
      represents = kept_next (number_name c.args.units.now c.args.places.now) items c.stretches.kept.items at s inside here c.stretches.invariant.represents;
      fit = fit_next items c.stretches.kept.items at s inside here c.requires.fit c.stretches.invariant.fit;
      own = own_next items c.stretches.kept.items at s inside here c.requires.own c.stretches.invariant.own;
    })
