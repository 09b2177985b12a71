use Rattle.inline_chain.proofs.LawLemmas.{one_runs}
use Rattle.inline_chain.proofs.laws.pieces_have_one_list_of_copies.Goals as goal

pub returns : goal.returns
returns c = one_runs
