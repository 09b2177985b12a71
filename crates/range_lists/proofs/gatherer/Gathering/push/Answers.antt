use Rattle.std.proofs.Common.{◌≡◌, ◌++◌, [], ◌∷◌}
use Rattle.range_lists.proofs.GatherLemmas.{added_first, added_joined, added_next}
use Rattle.range_lists.proofs.gatherer.Gathering.push.Goals as goal

pub returns-in-None : goal.returns-in-None
returns-in-None c =
    let old : c.self.inside.done.items ++ [] ≡ c.args.self.now = rw c.in-None.is at c.self.view_is in
    λ a. added_first c.self.inside.done.items c.args.self.now c.args.span a old

pub returns-in-Some-joined : goal.returns-in-Some-joined
returns-in-Some-joined c =
    let old : c.self.inside.done.items ++ c.in-Some.last ∷ [] ≡ c.args.self.now = rw c.in-Some.is at c.self.view_is in
    λ a. added_joined c.self.inside.done.items c.args.self.now c.in-Some.last c.args.span c.in-Some-joined.both a old (c.in-Some-joined.ensures a)

pub returns-in_ok-push-in-None-joined : goal.returns-in_ok-push-in-None-joined
returns-in_ok-push-in-None-joined c =
    let old : c.self.inside.done.items ++ c.in-Some.last ∷ [] ≡ c.args.self.now = rw c.in-Some.is at c.self.view_is in
    λ a. rw c.in_ok-push-in-None-joined.ensures.items (added_next c.self.inside.done.items c.args.self.now c.in-Some.last c.args.span a old)
