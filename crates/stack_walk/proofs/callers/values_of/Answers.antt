use Rattle.std.proofs.Common.{◌≡◌, length, arith, rules}
use Rattle.stack_walk.proofs.CallerLemmas.{values_are}
use Rattle.stack_walk.proofs.callers.values_of.Goals as goal

pub returns : goal.returns
returns c =
    let many : length c.args.outcomes.now ≡ 16 = search rules in
    values_are _ _ c.registers.invariant.many many (λ k h. c.registers.invariant.known k (omega arith))
