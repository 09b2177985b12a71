use Rattle.inline_chain.proofs.TreeLemmas.{tree_is}
use Rattle.inline_chain.proofs.trees.tree_of.Goals as goal

pub returns : goal.returns
returns c = tree_is _ _ _ c.in_ok-collect_copies.ensures.items c.in_ok-collect_copies.ensures.sets (rw c.in_ok-lists.ensures (rw c.as_slice-items.ensures.value at c.in_ok-fill_lists.ensures))
