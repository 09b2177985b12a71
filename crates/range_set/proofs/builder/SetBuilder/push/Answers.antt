use Rattle.std.proofs.Common.{◌≡◌, ◌≤◌, ◌++◌, [], ◌∷◌, Some, max, arith}
use Rattle.range_set.specs.Building.{IsBuilt, last_start}
use Rattle.range_set.proofs.BuildingLemmas.{built_next, widened_members, widened_start, added_members, added_start}
use Rattle.range_set.proofs.builder.SetBuilder.push.Goals as goal

pub invariant_of-self-else-start-end : goal.invariant_of-self-else-start-end
invariant_of-self-else-start-end c =
    let built : IsBuilt c.self.inside.done.items (Some c.in-Some.last) = rw c.in-Some.is at c.self.invariant in
    rw c.in_ok-push-in-Some.ensures.items (built_next c.self.inside.done.items c.in-Some.last c.args.span built (omega arith) (omega arith))

pub returns-then-start-end-clause-members : goal.returns-then-start-end-clause-members
returns-then-start-end-clause-members c =
    let old : c.self.inside.done.items ++ c.in-Some.last ∷ [] ≡ c.args.self.now = rw c.in-Some.is at c.self.view_is in
    let low : last_start (c.self.inside.done.items ++ c.in-Some.last ∷ []) ≤ c.args.span.start = rw old c.requires in
    let wide : c.new.result ≡ record { start = c.in-Some.last.start; end = max c.in-Some.last.end c.args.span.end } = cc in
    λ a. rw (wide, ← old) (widened_members c.self.inside.done.items c.in-Some.last c.args.span a low (omega arith))

pub returns-then-start-end-clause-last : goal.returns-then-start-end-clause-last
returns-then-start-end-clause-last c =
    let old : c.self.inside.done.items ++ c.in-Some.last ∷ [] ≡ c.args.self.now = rw c.in-Some.is at c.self.view_is in
    let low : last_start (c.self.inside.done.items ++ c.in-Some.last ∷ []) ≤ c.args.span.start = rw old c.requires in
    let wide : c.new.result ≡ record { start = c.in-Some.last.start; end = max c.in-Some.last.end c.args.span.end } = cc in
    rw wide (widened_start c.self.inside.done.items c.in-Some.last c.args.span _ low)

pub returns-in_ok-push-in-Some-clause-members : goal.returns-in_ok-push-in-Some-clause-members
returns-in_ok-push-in-Some-clause-members c =
    let old : c.self.inside.done.items ++ c.in-Some.last ∷ [] ≡ c.args.self.now = rw c.in-Some.is at c.self.view_is in
    λ a. rw (c.in_ok-push-in-Some.ensures.items, old) (added_members c.args.self.now c.args.span a)

pub returns-in_ok-push-in-Some-clause-last : goal.returns-in_ok-push-in-Some-clause-last
returns-in_ok-push-in-Some-clause-last c =
    let old : c.self.inside.done.items ++ c.in-Some.last ∷ [] ≡ c.args.self.now = rw c.in-Some.is at c.self.view_is in
    rw (c.in_ok-push-in-Some.ensures.items, old) (added_start c.args.self.now c.args.span c.requires)
