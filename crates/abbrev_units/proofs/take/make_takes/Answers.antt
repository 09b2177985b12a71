use Rattle.std.proofs.Common.{[], ◌∷◌, length, take, drop, sym, subst}
use Rattle.abbrev_units.specs.internal.Takes.{AreTakes}
use Rattle.abbrev_units.proofs.ListedLemmas.{added_more, none_added, starts_here, starts_more}
use Rattle.abbrev_units.proofs.TakeLemmas.{filled_more, filled_none, goes_to, more_taken, takes_begin, takes_joined, takes_next}
use Rattle.abbrev_units.proofs.take.make_takes.Goals as goal

pub specs-init : goal.specs-init
specs-init c =
    let before = c.args.takes.now.items in
    record {
      starts = starts_here before;
      takes = takes_begin c.args.kept (drop (length before) before) c.args.specs.now (none_added before);
      filled = filled_none c.args.kept c.args.specs.now c.none-filled.result.slots c.none-filled.ensures;
    }

pub specs-preserved-in-Some-joined : goal.specs-preserved-in-Some-joined
specs-preserved-in-Some-joined c =
    let specs = c.args.specs.now in
    let x = c.spec-item.result in
    let i = c.specs.spec-index in
    let kept = c.args.kept in
    let old = c.specs.filled.slots in
    let new = c.fill-slot.new.self.slots in
    let takes = drop (length c.args.takes.now.items) c.specs.takes.items in
    let taken = more_taken specs i x c.specs-test.true c.spec-item.is in
    let goes = goes_to kept (take i specs) x.attribute c.attribute.result c.fill-slot.result old new c.specs.invariant.filled c.fill-slot.ensures c.attribute.ensures in
    record {
      starts = c.specs.invariant.starts;
      takes = subst (AreTakes kept takes c.in-Some-joined.sum) (sym taken)
          (takes_joined kept takes (take i specs) x c.in-Some.row c.fill-slot.result c.specs.bytes c.in-Some-joined.sum c.specs.invariant.takes c.in-Some.ensures goes c.in-Some-joined.ensures);
      filled = filled_more kept specs i x c.attribute.result c.fill-slot.result old new c.specs.invariant.filled c.fill-slot.ensures c.attribute.ensures taken;
    }

pub specs-preserved : goal.specs-preserved
specs-preserved c =
    let specs = c.args.specs.now in
    let x = c.spec-item.result in
    let i = c.specs.spec-index in
    let kept = c.args.kept in
    let old = c.specs.filled.slots in
    let new = c.fill-slot.new.self.slots in
    let before = c.args.takes.now.items in
    let taken = more_taken specs i x c.specs-test.true c.spec-item.is in
    let goes = goes_to kept (take i specs) x.attribute c.attribute.result c.fill-slot.result old new c.specs.invariant.filled c.fill-slot.ensures c.attribute.ensures in
    record {
      starts = starts_more before c.specs.takes.items c.push.new.self.items (c.in-Some-take_of.take ∷ []) c.specs.invariant.starts c.in_ok-push.ensures.items;
      takes = subst (AreTakes kept (drop (length before) c.push.new.self.items) 0) (sym taken)
          (takes_next kept (drop (length before) c.specs.takes.items) (drop (length before) c.push.new.self.items) c.in-Some-take_of.take (take i specs) x c.in-Some.row c.fill-slot.result c.specs.bytes
          c.specs.invariant.takes c.in-Some.ensures goes c.in-Some-take_of.ensures (added_more before c.specs.takes.items c.push.new.self.items (c.in-Some-take_of.take ∷ []) c.specs.invariant.starts c.in_ok-push.ensures.items));
      filled = filled_more kept specs i x c.attribute.result c.fill-slot.result old new c.specs.invariant.filled c.fill-slot.ensures c.attribute.ensures taken;
    }
