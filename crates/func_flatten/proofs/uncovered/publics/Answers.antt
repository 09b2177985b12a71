use Rattle.func_flatten.proofs.PublicLemmas.{publics_are}
use Rattle.func_flatten.proofs.uncovered.publics.Goals as goal

pub returns : goal.returns
returns c =
    rw c.of.ensures
    (publics_are c.args.pieces.now c.as_slice-2.result.now c.spans.result.now c.as_slice-3.result.now c.symbols.result.now _ _
    (λ a. rw c.spans.ensures.same (c.in_ok-covered.ensures.members a)) (λ a. rw (c.as_slice-2.ensures.value, ← c.as_slice.ensures) (c.in_ok-spans.ensures a)) (λ a. rw c.as_slice-3.ensures.value (c.in_ok-sorted.ensures.groups a)) c.symbols.ensures c.in_ok-found.ensures)
