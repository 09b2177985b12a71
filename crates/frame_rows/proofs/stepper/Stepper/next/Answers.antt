use Rattle.std.proofs.Common.{inl, inr, arith, ap}
use Rattle.frame_rows.specs.Context.{with_run}
use Rattle.frame_rows.proofs.StepperLemmas.{stays, goes_on}
use Rattle.frame_rows.proofs.stepper.Stepper.next.Goals as goal
use Rattle.frame_rows.proofs.stepper.Stepper.next.Goals.{then-next-self-via-then-next-self, then-next-self-via-else-next-self+then-self-next}

pub returns-then-next-self-clause-steps : goal.returns-then-next-self-clause-steps
returns-then-next-self-clause-steps c = λ fresh going.
    stays c.self.inside.failed c.self.inside.refused c.self.inside.end c.self.inside.address _ _ c.self.inside.machine c.args.self.now c.self.view_is c.in_default.is
    (elim c.then-next-self.branch [
      | then-next-self-via-then-next-self w ↦ inl (omega (arith, w.if-next-self.true, c.address-next.ensures))
      | then-next-self-via-else-next-self+then-self-next w ↦ inr (omega (arith, w.if-self-next.true, c.address-next.ensures))
    ])

pub returns-in-Ok-clause-steps : goal.returns-in-Ok-clause-steps
returns-in-Ok-clause-steps c = λ fresh going.
    goes_on c.self.inside.failed c.self.inside.refused c.self.inside.end c.self.inside.address c.address-next.result _ _ _ _ c.self.inside.machine c.run_to_next_row.new.machine c.args.self.now c.in-Ok.columns c.self.view_is (ap (λ k. with_run k c.self.inside.run.now) c.get.ensures) c.if-self.false c.in_default.is
    c.address-next.ensures (omega arith) (omega arith) c.in-Ok.ensures.fault c.in-Ok.ensures.rows c.in-Ok.ensures.stays
