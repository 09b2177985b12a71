use Rattle.std.proofs.Common.{arith, sym, ap, ◌∙◌}
use Rattle.unit_workers.specs.Held.{Roll, Held}
use Rattle.unit_workers.proofs.StepLemmas.{draws}
use Rattle.unit_workers.proofs.tickets.Hand.draw.Goals as goal

pub fetch_add-found-requires : goal.fetch_add-found-requires
fetch_add-found-requires c =
    let same = ap (λ (h : Held). h.roll.id) c.self.view_is ∙ ap (λ (r : Roll). r.id) c.requires.of ∙ sym (ap (λ (r : Roll). r.id) c.tickets.view_is) in
    let rights = ap (λ (h : Held). h.rights) c.self.view_is in
    (same, omega (arith, c.tickets.invariant.0), draws _ _ _ _ (omega (arith, rights, c.requires.right)))
