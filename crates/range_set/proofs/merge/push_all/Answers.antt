use Rattle.std.proofs.Common.{◌∷◌}
use Rattle.range_set.proofs.JoinLemmas.{Pushes, pushes_step}
use Rattle.range_set.proofs.merge.push_all.Goals as goal

pub spans-preserved : goal.spans-preserved
spans-preserved c =
    let m : Pushes c.args.built.now c.args.spans.now c.spans.built (c.in-Some.span.now ∷ c.in-Some.after.now)
    = rw c.in-Some.ensures.cases.0 at c.spans.invariant in
    pushes_step _ _ _ _ _ _ m c.in_ok-push.ensures.members c.in_ok-push.ensures.last
