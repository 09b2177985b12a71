use Rattle.std.proofs.Common.{sym, ap, ◌∙◌}
use Rattle.unit_workers.specs.Numbers.{times, once_below}
use Rattle.unit_workers.specs.Held.{Roll, Held}
use Rattle.unit_workers.proofs.StepLemmas.{closes}
use Rattle.unit_workers.proofs.tickets.Hand.close.Goals as goal

pub close_with-requires : goal.close_with-requires
close_with-requires c = ap (λ (h : Held). h.roll.id) c.self.view_is ∙ ap (λ (r : Roll). r.id) c.requires.of ∙ sym (ap (λ (r : Roll). r.id) c.tickets.view_is)

pub returns : goal.returns
returns c x =
    let last = c.close_with.ensures.values.2 in
    let share = ap (λ (h : Held). h.share) c.self.view_is ∙ c.requires.share ∙ sym (ap (λ (r : Roll). r.workers) c.tickets.view_is) in
    let rights = ap (λ (h : Held). h.rights) c.self.view_is ∙ c.requires.rights in
    let each = closes _ last.0 _ _ last.1.0 last.1.1 c.tickets.invariant.3 share rights in
    sym (ap (λ (h : Held). times x h.drawn) c.self.view_is) ∙ each x ∙ ap (λ (r : Roll). once_below r.count x) c.tickets.view_is
