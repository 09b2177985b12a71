use Rattle.std.proofs.Common.{arith}
use Rattle.sym_judge.proofs.ChainLemmas.{one_chain_at}
use Rattle.sym_judge.proofs.names.have_one_chain.Goals as goal

pub returns : goal.returns
returns c = one_chain_at c.args.met.now c.args.pair.now.met.own c.args.pair.now.met.other c.args.address c.as_slice.result.now c.as_slice-2.result.now c.in-Some.mine.now c.in-Some-chains_of.theirs.now c.at.result c.at-2.result c.have_one_number.result (omega arith)
    c.as_slice.ensures.value c.as_slice-2.ensures.value c.in-Some.ensures c.in-Some-chains_of.ensures c.at.ensures c.at-2.ensures c.have_one_number.ensures
