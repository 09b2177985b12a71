use Rattle.std.proofs.Common.{◌∷◌, ◌<◌, arith}
use Rattle.range_set.proofs.MemberLemmas.{first_held}
use Rattle.range_set.proofs.CutLemmas.{Minus, minus_step}
use Rattle.range_set.proofs.difference.minus_spans.Goals as goal

pub push_cut-requires-clause-last : goal.push_cut-requires-clause-last
push_cut-requires-clause-last c =
    let m : Minus c.args.left.now c.args.right.now c.spans.built (c.in-Some.x.now ∷ c.in-Some.xs_after.now) c.spans.cuts.now
    = rw c.in-Some.ensures.cases.0 at c.spans.invariant in
    let some : c.in-Some.x.now.start < c.in-Some.x.now.end = m.first.0 in
    m.order _ (first_held _ _ _ (omega arith) some)

pub spans-preserved : goal.spans-preserved
spans-preserved c =
    let m : Minus c.args.left.now c.args.right.now c.spans.built (c.in-Some.x.now ∷ c.in-Some.xs_after.now) c.spans.cuts.now
    = rw c.in-Some.ensures.cases.0 at c.spans.invariant in
    minus_step _ _ _ _ _ _ _ _ m c.in_ok-cuts.ensures.canonical c.in_ok-cuts.ensures.beyond c.in_ok-cuts.ensures.members c.in_ok-cuts.ensures.last
