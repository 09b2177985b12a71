use Rattle.sym_judge.proofs.ChainLemmas.{func_there}
use Rattle.sym_judge.proofs.chains.chains_of.Goals as goal

pub returns : goal.returns
returns c = func_there c.args.funcs.now c.partition_point-at.result c.args.func c.index-funcs-at.result c.index-funcs-at.is c.if-at-funcs.false c.if-known-func.false
