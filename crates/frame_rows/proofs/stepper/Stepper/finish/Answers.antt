use Rattle.std.proofs.Common.{ap}
use Rattle.frame_rows.specs.Context.{with_run}
use Rattle.frame_rows.proofs.StepperLemmas.{ends}
use Rattle.frame_rows.proofs.stepper.Stepper.finish.Goals as goal

pub returns-in-Ok : goal.returns-in-Ok
returns-in-Ok c =
    ends c.self.inside.failed c.self.inside.refused c.self.inside.end c.self.inside.address c.address-self-inside.result _ _ _ c.self.inside.encoding c.self.inside.base c.run_to_end.new.cursor c.self.inside.machine c.run_to_end.new.machine c.args.self.now c.self.view_is (ap (λ k. with_run k c.self.inside.run.now) c.get.ensures) c.requires.going c.in-Ok.ensures.fault c.in-Ok.ensures.ended c.address-self-inside.ensures
