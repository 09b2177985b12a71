use Rattle.std.proofs.Common.{◌++◌, [], map, refl, sym, ◌∙◌, ap, subst, reverse}
use Rattle.rust_names.specs.internal.Passing.{IsEnd}
use Rattle.rust_names.specs.internal.Stepping.{Waits, read_of}
use Rattle.rust_names.proofs.EndLemmas.{expanded_end}
use Rattle.rust_names.proofs.StepLemmas.{begun_waits}
use Rattle.rust_names.proofs.passing.begin.Goals as goal

pub returns-in_ok-push_reads-in-Some : goal.returns-in_ok-push_reads-in-Some
returns-in_ok-push_reads-in-Some c = λ first waits.
    let name = c.args.name.now in
    let rest = c.from_place.result.now in
    let expanded = rw c.in-Some.is at c.in_ok-after.ensures in
    let begins : IsEnd name rest = record { place = c.args.now.place; is = c.from_place.ensures } in
    subst (λ p. Waits name first (reverse c.push_reads.new.steps.items) [] (record { place = p; opened = c.args.now.opened; levels = 0; width = 0 })) (sym c.saturating_sub.ensures)
    (begun_waits name first c.args.steps.now.items c.push.new.self.items c.push_reads.new.steps.items c.clear.new.self.items c.expand.new.stack.items c.args.part c.args.now rest c.in-Some.after.now _ c.requires c.from_place.ensures c.clear.ensures.items refl expanded
    (expanded_end _ _ _ _ _ name rest c.in-Some.after.now begins expanded) c.in_ok-push-in-Some.ensures.items
    (c.in_ok-push_reads-in-Some.ensures ∙ ap (λ fs. c.push.new.self.items ++ map read_of fs) c.as_slice.ensures.value) waits)
