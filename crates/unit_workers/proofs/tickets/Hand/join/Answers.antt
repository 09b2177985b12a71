use Rattle.std.proofs.Common.{arith, sym, ap, ◌∙◌}
use Rattle.unit_workers.specs.Held.{Roll, Held}
use Rattle.unit_workers.proofs.StepLemmas.{joins, same_lot}
use Rattle.unit_workers.proofs.tickets.Hand.join.Goals as goal

pub join_seat-requires : goal.join_seat-requires
join_seat-requires c =
    let mine = c.self.view_is in
    let theirs = c.other.view_is in
    let tickets = c.tickets.view_is in
    let of = ap (λ (h : Held). h.roll) mine ∙ c.requires.of.0 ∙ sym tickets in
    let other_of = ap (λ (h : Held). h.roll) theirs ∙ c.requires.of.1 ∙ sym tickets in
    (ap (λ (r : Roll). r.id) of, ap (λ (r : Roll). r.id) other_of, c.other.invariant, omega (arith, c.tickets.invariant.0), joins _ _ _ _ _ (same_lot _ _ (ap (λ (r : Roll). r.count) of) (ap (λ (r : Roll). r.workers) of)))
