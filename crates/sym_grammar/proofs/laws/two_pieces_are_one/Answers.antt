use Rattle.sym_grammar.proofs.EagerLemmas.{both_up}
use Rattle.sym_grammar.proofs.laws.two_pieces_are_one.Goals as goal

pub returns : goal.returns
returns c = both_up
