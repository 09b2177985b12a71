use Rattle.std.proofs.Common.{◌∷◌, arith}
use Rattle.range_set.proofs.MemberLemmas.{first_holds}
use Rattle.range_set.proofs.MeetLemmas.{Meets, meets_first, meets_second}
use Rattle.range_set.proofs.intersection.meet_spans.Goals as goal
use Rattle.range_set.proofs.intersection.meet_spans.Goals.{then-end, else-end}

pub push_overlap-requires : goal.push_overlap-requires
push_overlap-requires c =
    let m : Meets c.args.left.now c.args.right.now c.spans.built (c.in-Some-Some.x.now ∷ c.in-Some-Some.xs_after.now) (c.in-Some-Some.y.now ∷ c.in-Some-Some.ys_after.now)
    = rw (c.in-Some-Some.ensures.cases.0, c.in-Some-Some.ensures'.cases.0) at c.spans.invariant in
    λ a h k. m.order a (first_holds _ _ a h) (first_holds _ _ a k)

pub spans-preserved : goal.spans-preserved
spans-preserved c =
    let m : Meets c.args.left.now c.args.right.now c.spans.built (c.in-Some-Some.x.now ∷ c.in-Some-Some.xs_after.now) (c.in-Some-Some.y.now ∷ c.in-Some-Some.ys_after.now)
    = rw (c.in-Some-Some.ensures.cases.0, c.in-Some-Some.ensures'.cases.0) at c.spans.invariant in
    elim c.if-end.branch [
      | then-end w ↦ rw (w.xs-is, w.ys-is, c.in-Some-Some.ensures'.cases.0)
          (meets_first _ _ _ _ _ _ _ _ m (omega arith) c.in_ok-push_overlap.ensures.members c.in_ok-push_overlap.ensures.last)
      | else-end w ↦ rw (w.xs-is, w.ys-is, c.in-Some-Some.ensures.cases.0)
          (meets_second _ _ _ _ _ _ _ _ m (omega arith) c.in_ok-push_overlap.ensures.members c.in_ok-push_overlap.ensures.last)
    ]
