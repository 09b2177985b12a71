use Rattle.std.proofs.Common.{arith, sym, ap, ◌∙◌}
use Rattle.unit_workers.specs.Held.{Roll, Held}
use Rattle.unit_workers.proofs.StepLemmas.{splits}
use Rattle.unit_workers.proofs.tickets.Hand.split.Goals as goal

pub split_seat-seat-requires : goal.split_seat-seat-requires
split_seat-seat-requires c =
    let same = ap (λ (h : Held). h.roll.id) c.self.view_is ∙ ap (λ (r : Roll). r.id) c.requires.of ∙ sym (ap (λ (r : Roll). r.id) c.tickets.view_is) in
    let rights = ap (λ (h : Held). h.rights) c.self.view_is in
    (same, omega (arith, c.tickets.invariant.0), splits _ _ _ (omega (arith, rights, c.requires.rights)))
