use Rattle.inline_chain.proofs.CollectLemmas.{collects_more}
use Rattle.inline_chain.proofs.children.collect_copies.Goals as goal

pub entries-preserved : goal.entries-preserved
entries-preserved c = rw c.in_ok-push.ensures.items
    (collects_more _ _ _ _ _ _ _ _ c.in-Some.ensures (rw c.as_slice.ensures.value at c.inside_of-above.ensures) c.in_ok-push_copy.ensures.canonical c.in_ok-push_copy.ensures.fit (rw c.as_slice-in-entries.ensures.value at c.in_ok-push_copy.ensures.same) c.entries.invariant)
