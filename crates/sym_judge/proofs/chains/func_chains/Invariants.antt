use Rattle.sym_judge.specs.internal.Chains.{Keeps, AreFuncChains}
use Rattle.sym_judge.proofs.chains.func_chains.Given as goal

abbrev pub invariant-places : goal.invariant-places
invariant-places l = record {
  keeps : Keeps l.initial.numbers.entries.items l.numbers.entries.items;
  are : AreFuncChains l.calls.own l.calls.other l.numbers.entries.items l.funcs.items;
}
