use Rattle.inline_chain.specs.internal.Copies.{Collects}
use Rattle.inline_chain.proofs.children.collect_copies.Given as goal

abbrev pub invariant-entries : goal.invariant-entries
invariant-entries l = Collects l.part.die.dies l.part.spans l.entry l.row.items l.stretches.items
