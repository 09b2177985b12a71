use Rattle.std.proofs.Common.{Ok, sym, ap, subst, ◌∙◌}
use Rattle.abbrev_units.specs.Picks.{PickFields, IsSlot}
use Rattle.abbrev_units.proofs.PickLemmas.{attributes_more, picks_begin, picks_more, put_kept}
use Rattle.abbrev_units.proofs.TakeLemmas.{more_taken}
use Rattle.abbrev_units.proofs.view.pick_values.Goals as goal

pub specs-init : goal.specs-init
specs-init c = record {
  filled = c.none-filled.ensures;
  picks = picks_begin c.args.specs.now c.args.cursor.now ∙ ap (λ (p : PickFields). Ok (p, c.args.cursor.now)) (sym c.clear.ensures);
}

pub specs-preserved : goal.specs-preserved
specs-preserved c =
    let specs = c.args.specs.now in
    let x = c.spec-item.result in
    let i = c.specs.spec-index in
    let wanted = c.fill-slot.ensures.wanted in
    let slot : IsSlot wanted x.attribute = subst (IsSlot wanted) c.attribute.ensures c.fill-slot.ensures.is in
    let taken = more_taken specs i x c.specs-test.true c.spec-item.is in
    record {
      filled = attributes_more specs i x wanted c.specs.filled.slots c.fill-slot.new.self.slots c.specs.invariant.filled taken slot c.fill-slot.ensures.filled;
      picks = picks_more specs i x wanted c.fill-slot.result c.in-Ok.value c.specs.picks c.put.new.self c.specs.filled.slots c.args.cursor.now c.specs.cursor c.read.new.cursor
          c.specs.invariant.picks c.specs.invariant.filled taken slot c.fill-slot.ensures.free c.in-Ok.ensures.read
          (put_kept c.fill-slot.result c.in-Ok.value c.specs.picks c.put.new.self _ c.put.ensures c.keep.ensures);
    }
