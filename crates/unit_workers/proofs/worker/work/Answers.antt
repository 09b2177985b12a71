use Rattle.std.proofs.Common.{ap}
use Rattle.unit_workers.specs.Held.{Held}
use Rattle.unit_workers.proofs.WorkLemmas.{works_more, fewer_ahead}
use Rattle.unit_workers.proofs.worker.work.Goals as goal

pub draws-smaller : goal.draws-smaller
draws-smaller g c =
    let number = c.in-Some.ensures.number in
    fewer_ahead c.args.tickets.now c.draws.hand c.draw.new.self c.in-Some.k (ap (λ (h : Held). h.roll) c.draws.invariant.holds) number.0 number.1 c.in-Some.ensures.drawn

pub draws-preserved : goal.draws-preserved
draws-preserved g c =
    let number = c.in-Some.ensures.number in
    rw c.in_ok-push.ensures.items
    (works_more (g.J.UnitJob.gives c.args.job.now) c.args.tickets.now c.draws.hand c.draw.new.self c.draws.found.items c.in-Some.k c.in_ok-out.out c.draws.invariant number.0 c.in-Some.ensures.drawn c.in_ok-out.ensures)
