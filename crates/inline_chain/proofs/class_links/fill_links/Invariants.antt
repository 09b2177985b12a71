use Rattle.std.proofs.Common.{length}
use Rattle.inline_chain.specs.internal.Links.{Linking}
use Rattle.inline_chain.proofs.class_links.fill_links.Given as goal

abbrev pub invariant-items : goal.invariant-items
invariant-items l = Linking l.items l.rest l.links.firsts.items l.links.nexts.items

abbrev pub decreases-items : goal.decreases-items
decreases-items l = length l.rest
