use Rattle.std.proofs.Common.{◌≡◌, ◌∷◌, nat_le, ◌∙◌, ap, arith}
use Rattle.range_set.specs.Members.{holds_any}
use Rattle.range_set.specs.Canonical.{IsCanonical}
use Rattle.func_flatten.proofs.PublicLemmas.{found_span}
use Rattle.func_flatten.proofs.uncovered.pass_to.Goals as goal

pub returns-then-address-end-clause-covered : goal.returns-then-address-end-clause-covered
returns-then-address-end-clause-covered c =
    let canonical : IsCanonical (c.in-Some.span.now ∷ c.in-Some.later.now) = rw c.in-Some.ensures.cases.0 at c.spans.invariant.canonical in
    let there : holds_any c.spans.rest.now c.args.address ≡ holds_any c.args.spans.now c.args.address = c.spans.invariant.same c.args.address (omega arith) in
    let same : holds_any (c.in-Some.span.now ∷ c.in-Some.later.now) c.args.address ≡ holds_any c.args.spans.now c.args.address = rw c.in-Some.ensures.cases.0 at there in
    ap (λ n. nat_le n c.args.address) c.start.ensures.start ∙ found_span _ _ c.args.address canonical (omega arith) ∙ same
