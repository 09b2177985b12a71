use Rattle.sym_judge.specs.internal.Chains.{AreFuncPairs}
use Rattle.sym_judge.proofs.function_pairs.func_pairs.Given as goal

abbrev pub invariant-meetings : goal.invariant-meetings
invariant-meetings l = AreFuncPairs l.both.own l.both.other l.pairs.items
