use Rattle.std.proofs.Common.{◌∷◌, arith}
use Rattle.range_set.proofs.EnclosingLemmas.{Keeps, keeps_none, keeps_more, keeps_same, keeps_all}
use Rattle.range_set.proofs.outermost.keep_outermost.Goals as goal

pub spans-init : goal.spans-init
spans-init c = keeps_none c.args.spans.now c.new-kept.result.items c.new-kept.ensures.items c.requires

pub spans-preserved-in_ok-push : goal.spans-preserved-in_ok-push
spans-preserved-in_ok-push c =
    let k : Keeps c.args.spans.now c.spans.kept.items (c.in-Some.span.now ∷ c.in-Some.after.now) c.spans.reach
    = rw c.in-Some.ensures.cases.0 at c.spans.invariant in
    rw c.end-reach.ensures.end (keeps_more _ _ _ _ _ _ k (omega arith) c.in_ok-push.ensures.items)

pub spans-preserved : goal.spans-preserved
spans-preserved c =
    let k : Keeps c.args.spans.now c.spans.kept.items (c.in-Some.span.now ∷ c.in-Some.after.now) c.spans.reach
    = rw c.in-Some.ensures.cases.0 at c.spans.invariant in
    keeps_same _ _ _ _ _ k (omega arith) (omega arith)

pub returns-clause-same : goal.returns-clause-same
returns-clause-same c = keeps_all _ _ _ _ c.spans.invariant c.in_default.ensures.cases
