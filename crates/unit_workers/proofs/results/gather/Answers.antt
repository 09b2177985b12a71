use Rattle.std.proofs.Common.{Some, arith, ap, ◌∙◌}
use Rattle.unit_workers.specs.Held.{Held}
use Rattle.unit_workers.proofs.WorkLemmas.{popped}
use Rattle.unit_workers.proofs.PlaceLemmas.{gathers_first, gathers_more}
use Rattle.unit_workers.proofs.results.gather.Goals as goal

pub works-init : goal.works-init
works-init g c =
    let gives = g.J.UnitJob.gives c.args.job.now in
    let roll = c.args.tickets.now in
    let first = popped gives roll _ _ _ _ c.requires.each c.pop.ensures.items (c.in-Some.is ∙ ap Some c.in_ok-hand.was) in
    record {
      share = omega (arith, ap (λ (h : Held). h.share) first.0.holds, rw c.in-Some.is at c.pop.ensures.len);
      gathered = rw (c.place.ensures, c.requires.empty) (gathers_first gives roll _ _ first.0);
      each = first.1;
    }

pub join-requires : goal.join-requires
join-requires g c =
    let other = popped (g.J.UnitJob.gives c.args.job.now) c.args.tickets.now _ _ _ _ c.works.invariant.each c.pop-in-works.ensures.items (c.in-Some-pop.is ∙ ap Some c.in_ok-other.was) in
    record { of = (c.works.invariant.gathered.of, ap (λ (h : Held). h.roll) other.0.holds) }

pub place-requires-in-Some-pop : goal.place-requires-in-Some-pop
place-requires-in-Some-pop g c =
    let other = popped (g.J.UnitJob.gives c.args.job.now) c.args.tickets.now _ _ _ _ c.works.invariant.each c.pop-in-works.ensures.items (c.in-Some-pop.is ∙ ap Some c.in_ok-other.was) in
    rw c.works.invariant.gathered.long other.0.each

pub works-preserved : goal.works-preserved
works-preserved g c =
    let gives = g.J.UnitJob.gives c.args.job.now in
    let roll = c.args.tickets.now in
    let other = popped gives roll _ _ _ _ c.works.invariant.each c.pop-in-works.ensures.items (c.in-Some-pop.is ∙ ap Some c.in_ok-other.was) in
    let share = ap (λ (h : Held). h.share) c.join.ensures in
    record {
      share = omega (arith, c.works.invariant.share, share, ap (λ (h : Held). h.share) other.0.holds, rw c.in-Some-pop.is at c.pop-in-works.ensures.len);
      gathered = rw (c.place-in-Some-pop.ensures, c.join.ensures) (gathers_more gives roll _ _ _ _ c.works.invariant.gathered other.0);
      each = other.1;
    }
