use Rattle.rust_names.proofs.EndLemmas.{leaf_end, named_end}
use Rattle.rust_names.proofs.turns.read_plain.Goals as goal

pub returns-in_ok-next-in-Leaf-clause-ends : goal.returns-in_ok-next-in-Leaf-clause-ends
returns-in_ok-next-in-Leaf-clause-ends c =
    leaf_end c.in-Leaf.leaf c.args.frame.scope c.args.name.now c.args.rest.now c.args.room.now.text.items c.read_known_leaf.new.room.text.items c.in_ok-next-in-Leaf.next c.requires.ends c.in_ok-next-in-Leaf.ensures.read

pub returns-in_ok-next-in-Phrase-clause-ends : goal.returns-in_ok-next-in-Phrase-clause-ends
returns-in_ok-next-in-Phrase-clause-ends c = named_end c.args.frame.scope c.args.name.now c.args.rest.now c.args.room.now.text.items c.read_named.new.text.items c.in_ok-next-in-Phrase.next c.requires.ends c.in_ok-next-in-Phrase.ensures
