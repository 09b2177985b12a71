use Rattle.std.proofs.Common.{sym, subst}
use Rattle.rust_names.specs.internal.Stepping.{Passes}
use Rattle.rust_names.proofs.RunLemmas.{alone}
use Rattle.rust_names.proofs.StepLemmas.{alone_passes}
use Rattle.rust_names.proofs.passing.read_one.Goals as goal

pub returns-in-Some-clause-passes : goal.returns-in-Some-clause-passes
returns-in-Some-clause-passes c =
    let is = rw c.in-Some.is at c.in_ok-stop.ensures.read in
    subst (λ p. Passes c.args.name.now c.args.part c.args.now.place c.args.now.opened (record { place = p; opened = c.read_frames.new.room.opened; levels = 0; width = 1 })) (sym c.saturating_sub.ensures)
    (alone_passes c.args.name.now c.args.part c.args.now.place c.args.now.opened c.read_frames.new.room.opened c.from_place.result.now c.in-Some.stop.rest.now c.args.room.now.text.items c.read_frames.new.room.text.items c.from_place.ensures is.ends
    (alone c.args.name.now _ c.clear.new.self.items c.push.new.self.items c.read_frames.new.room.stack.items _ c.read_frames.new.room.text.items c.read_frames.new.room.opened c.in-Some.stop c.clear.ensures.items c.in_ok-push.ensures.items is))
