use Rattle.std.proofs.Common.{◌≤◌, length, arith}
use Rattle.debug_units.specs.UnitEntries.{places}
use Rattle.inline_chain.proofs.TreeLemmas.{unit_few}
use Rattle.inline_chain.proofs.trees.TreeMakerUnitJob.run.Goals as goal

pub tree_of-requires : goal.tree_of-requires
tree_of-requires c =
    let less : length c.in-Some.part.now.die.dies ≤ length (places c.self.inside.units.now) = unit_few c.self.inside.units.now c.args.k c.in-Some.part.now (rw c.as_slice.ensures.units at c.in-Some.ensures) in
    omega (arith, less, c.as_slice.ensures.read.few_entries)
