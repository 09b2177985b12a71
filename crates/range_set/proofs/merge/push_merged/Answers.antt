use Rattle.std.proofs.Common.{◌∷◌, arith, refl}
use Rattle.range_set.proofs.JoinLemmas.{Joins, joins_first, joins_second, joins_end, from_zero, ascending_canonical}
use Rattle.range_set.proofs.merge.push_merged.Goals as goal

pub spans-init : goal.spans-init
spans-init c = record {
  first = c.requires.left;
  second = c.requires.right;
  before = rw c.requires.empty (from_zero c.args.left.now);
  early = rw c.requires.empty (from_zero c.args.right.now);
  members = λ a. rw c.requires.empty refl;
}

pub returns-in_default-split_first-clause-members : goal.returns-in_default-split_first-clause-members
returns-in_default-split_first-clause-members c = joins_end _ _ _ _ _ c.spans.invariant c.in_default-split_first.ensures.cases

pub returns-in_default-split_first-clause-ascending : goal.returns-in_default-split_first-clause-ascending
returns-in_default-split_first-clause-ascending c = ascending_canonical _ c.spans.invariant.first

pub spans-preserved-then-start : goal.spans-preserved-then-start
spans-preserved-then-start c =
    let m : Joins c.args.left.now c.args.right.now c.spans.built (c.in-Some.x.now ∷ c.in-Some.xs_after.now) (c.in-Some-split_first.y.now ∷ c.in-Some-split_first.ys_after.now)
    = rw (c.in-Some.ensures.cases.0, c.in-Some-split_first.ensures.cases.0) at c.spans.invariant in
    rw c.in-Some-split_first.ensures.cases.0 (joins_first _ _ _ _ _ _ _ _ m (omega arith) c.in_ok-push.ensures.members c.in_ok-push.ensures.last)

pub spans-preserved : goal.spans-preserved
spans-preserved c =
    let m : Joins c.args.left.now c.args.right.now c.spans.built (c.in-Some.x.now ∷ c.in-Some.xs_after.now) (c.in-Some-split_first.y.now ∷ c.in-Some-split_first.ys_after.now)
    = rw (c.in-Some.ensures.cases.0, c.in-Some-split_first.ensures.cases.0) at c.spans.invariant in
    rw c.in-Some.ensures.cases.0 (joins_second _ _ _ _ _ _ _ _ m (omega arith) c.in_ok-push-2.ensures.members c.in_ok-push-2.ensures.last)

pub returns-clause-ascending : goal.returns-clause-ascending
returns-clause-ascending c = ascending_canonical _ c.spans.invariant.second
