use Rattle.std.proofs.Common.{◌≡◌, drop}
use Rattle.sym_grammar.specs.internal.Runs.{upto}
use Rattle.sym_grammar.proofs.numbers.digits_upto.Given as goal

abbrev pub invariant-loop-at : goal.invariant-loop-at
invariant-loop-at l = upto l.limit 0 l.word ≡ upto l.limit l.n (drop l.at l.word)
