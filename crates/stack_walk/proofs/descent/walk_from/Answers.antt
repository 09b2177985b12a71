use Rattle.std.proofs.Common.{sym, ◌∙◌, ap, arith}
use Rattle.stack_walk.specs.declared.steps.WalkEnd.TheVariants.{Limit}
use Rattle.stack_walk.proofs.StateLemmas.{step_of_file}
use Rattle.stack_walk.proofs.DescentLemmas.{goes_on, ends_at, limit_at}
use Rattle.stack_walk.proofs.descent.walk_from.Goals as goal

pub returns-in-Err : goal.returns-in-Err
returns-in-Err c =
    ends_at _ _ _ _ _ _ _ _ _ c.steps.invariant (omega arith) (step_of_file _ _ _ _ _ c.one_module-known.ensures c.in_ok-step.ensures) (sym c.place_after-next.ensures ∙ c.in-Err.is) (c.of.ensures ∙ c.in_ok-push.ensures.items)

pub steps-preserved : goal.steps-preserved
steps-preserved c =
    goes_on _ _ _ _ _ _ _ _ _ c.steps.invariant (omega arith) (step_of_file _ _ _ _ _ c.one_module-known.ensures c.in_ok-step.ensures) (sym c.place_after-next.ensures ∙ c.in-Ok.is) c.in_ok-push.ensures.items

pub returns : goal.returns
returns c = ap (λ xs. record { steps = xs; end = Limit }) c.of-2.ensures ∙ limit_at _ _ _ _ _ _ c.steps.invariant (omega arith)
