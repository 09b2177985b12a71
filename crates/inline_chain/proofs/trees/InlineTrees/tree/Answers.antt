use Rattle.inline_chain.proofs.TreeLemmas.{tree_at}
use Rattle.inline_chain.proofs.trees.InlineTrees.tree.Goals as goal

pub returns : goal.returns
returns c = rw (c.tree_in.ensures, c.as_slice.ensures.value, ← c.self.view_is) (tree_at _ _ _ c.self.invariant)
