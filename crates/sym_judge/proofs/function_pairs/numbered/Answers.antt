use Rattle.sym_judge.proofs.ChainLemmas.{kept_funcs}
use Rattle.sym_judge.proofs.FunctionPairLemmas.{named_funcs}
use Rattle.sym_judge.proofs.function_pairs.numbered.Goals as goal

pub returns : goal.returns
returns c = record {
  entries = c.func_chains-2.new.numbers.entries.items;
  first = kept_funcs c.args.both.now.own c.args.both.now.own _ _ _ c.in_ok-other.ensures.keeps (named_funcs _ _ _ _ _ _ _ c.of-calls.ensures c.own.ensures c.own-2.ensures c.in_ok-own.ensures.are);
  second = named_funcs _ _ _ _ _ _ _ c.of-others.ensures c.own-3.ensures c.other.ensures c.in_ok-other.ensures.are;
}
