use Rattle.std.proofs.Common.{◌∙◌, sym, ap, arith, subst}
use Rattle.stack_walk.specs.declared.steps.WalkEnd.TheVariants.{Limit}
use Rattle.stack_walk.proofs.DescentLemmas.{goes_on, ends_at, limit_at}
use Rattle.module_stacks.specs.Walking.{IsPathOf, AreAsked}
use Rattle.module_stacks.proofs.FileLemmas.{learns_on, asks_then}
use Rattle.module_stacks.proofs.WalkerLemmas.{step_got, agrees_before, asks_at, learns_at, asked_more, place_of}
use Rattle.module_stacks.proofs.walker.StackWalker.walk_from.Goals as goal

pub returns-in_err-ask_at-clause-asks : goal.returns-in_err-ask_at-clause-asks
returns-in_err-ask_at-clause-asks g c = asks_then (IsPathOf c.args.self.now) _ _ _ _ _ _ _ _ c.steps.invariant.learns (asks_at c.steps.self c.args.self.now _ _ _ c.steps.invariant.core c.steps.invariant.folder c.ask_at.ensures.asks)

pub returns-in_err-step-clause-asks : goal.returns-in_err-step-clause-asks
returns-in_err-step-clause-asks g c = asks_then (IsPathOf c.args.self.now) _ _ _ _ _ _ _ _ c.steps.invariant.learns (asks_at c.steps.self c.args.self.now _ _ _ c.steps.invariant.core c.steps.invariant.folder c.ask_at.ensures.asks)

pub returns-in_err-push-clause-asks : goal.returns-in_err-push-clause-asks
returns-in_err-push-clause-asks g c = asks_then (IsPathOf c.args.self.now) _ _ _ _ _ _ _ _ c.steps.invariant.learns (asks_at c.steps.self c.args.self.now _ _ _ c.steps.invariant.core c.steps.invariant.folder c.ask_at.ensures.asks)

pub returns-in-Err-clause-asks : goal.returns-in-Err-clause-asks
returns-in-Err-clause-asks g c = asks_then (IsPathOf c.args.self.now) _ _ _ _ _ _ _ _ c.steps.invariant.learns (asks_at c.steps.self c.args.self.now _ _ _ c.steps.invariant.core c.steps.invariant.folder c.ask_at.ensures.asks)

pub returns-in-Err-clause-learns : goal.returns-in-Err-clause-learns
returns-in-Err-clause-learns g c = learns_on (IsPathOf c.args.self.now) _ _ _ _ _ _ _ _ _ _ _ c.steps.invariant.files c.steps.invariant.faults c.steps.invariant.learns (learns_at c.steps.self c.args.self.now _ _ _ _ _ _ _ c.steps.invariant.core c.steps.invariant.folder c.in_ok-ask_at.ensures.learns)

pub returns-in-Err-clause-steps : goal.returns-in-Err-clause-steps
returns-in-Err-clause-steps g c = subst (AreAsked c.ask_at.new.self) (sym c.of.ensures)
    (asked_more c.steps.self c.ask_at.new.self _ _ c.in_ok-step.step c.steps.here.at c.in_ok-ask_at.ensures.same.0 c.in_ok-ask_at.ensures.same.1 c.in_ok-ask_at.ensures.learns.stays c.steps.invariant.steps c.in_ok-ask_at.ensures.there (place_of c.ask_at.new.self c.steps.here c.in_ok-step.step c.in_ok-step.ensures) c.in_ok-push.ensures.items)

pub returns-in-Err-clause-walk : goal.returns-in-Err-clause-walk
returns-in-Err-clause-walk g c = λ got agrees.
    let step = step_got c.ask_at.new.self got _ _ c.steps.here c.in_ok-step.step (c.in_ok-ask_at.ensures.same.0 ∙ c.steps.invariant.core) (c.in_ok-ask_at.ensures.same.1 ∙ c.steps.invariant.folder) agrees c.in_ok-ask_at.ensures.there c.in_ok-step.ensures in
    ends_at _ _ _ _ _ _ _ _ _ (c.steps.invariant.walk got (agrees_before got _ _ c.in_ok-ask_at.ensures.learns.stays agrees)) (omega arith) step (sym c.place_after-next.ensures ∙ c.in-Err.is) (c.of.ensures ∙ c.in_ok-push.ensures.items)

pub steps-preserved : goal.steps-preserved
steps-preserved g c = record {
  core = c.in_ok-ask_at.ensures.same.0 ∙ c.steps.invariant.core;
  folder = c.in_ok-ask_at.ensures.same.1 ∙ c.steps.invariant.folder;
  files = c.in_ok-ask_at.ensures.files ∙ c.steps.invariant.files;
  faults = omega (arith, c.in_ok-ask_at.ensures.faults, c.steps.invariant.faults);
  learns = learns_on (IsPathOf c.args.self.now) _ _ _ _ _ _ _ _ _ _ _ c.steps.invariant.files c.steps.invariant.faults c.steps.invariant.learns (learns_at c.steps.self c.args.self.now _ _ _ _ _ _ _ c.steps.invariant.core c.steps.invariant.folder c.in_ok-ask_at.ensures.learns);
  steps = asked_more c.steps.self c.ask_at.new.self _ _ c.in_ok-step.step c.steps.here.at c.in_ok-ask_at.ensures.same.0 c.in_ok-ask_at.ensures.same.1 c.in_ok-ask_at.ensures.learns.stays c.steps.invariant.steps c.in_ok-ask_at.ensures.there (place_of c.ask_at.new.self c.steps.here c.in_ok-step.step c.in_ok-step.ensures) c.in_ok-push.ensures.items;
  walk = λ got agrees.
      let step = step_got c.ask_at.new.self got _ _ c.steps.here c.in_ok-step.step (c.in_ok-ask_at.ensures.same.0 ∙ c.steps.invariant.core) (c.in_ok-ask_at.ensures.same.1 ∙ c.steps.invariant.folder) agrees c.in_ok-ask_at.ensures.there c.in_ok-step.ensures in
      goes_on _ _ _ _ _ _ _ _ _ (c.steps.invariant.walk got (agrees_before got _ _ c.in_ok-ask_at.ensures.learns.stays agrees)) (omega arith) step (sym c.place_after-next.ensures ∙ c.in-Ok.is) c.in_ok-push.ensures.items;
}

pub returns-clause-steps : goal.returns-clause-steps
returns-clause-steps g c = subst (AreAsked c.steps.self) (sym c.of-2.ensures) c.steps.invariant.steps

pub returns-clause-walk : goal.returns-clause-walk
returns-clause-walk g c = λ got agrees. ap (λ xs. record { steps = xs; end = Limit }) c.of-2.ensures ∙ limit_at _ _ _ _ _ _ (c.steps.invariant.walk got agrees) (omega arith)
