use Rattle.inline_chain.specs.internal.Links.{Walks}
use Rattle.inline_chain.proofs.class_links.fill_class.Given as goal

abbrev pub invariant-places : goal.invariant-places
invariant-places l = Walks l.class l.items l.group.items l.place

abbrev pub decreases-places : goal.decreases-places
decreases-places l = l.place
