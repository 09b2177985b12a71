use Rattle.std.proofs.Common.{arith}
use Rattle.sym_judge.proofs.function_pairs.pair_of.Goals as goal

pub returns-clause-is : goal.returns-clause-is
returns-clause-is c = λ mine theirs are. are c.partition_point-at.result _ (omega arith)
