use Rattle.inline_chain.specs.internal.Copies.{ListsTo}
use Rattle.inline_chain.proofs.trees.fill_lists.Given as goal

abbrev pub invariant-classes : goal.invariant-classes
invariant-classes l = ListsTo l.items l.lists l.class
