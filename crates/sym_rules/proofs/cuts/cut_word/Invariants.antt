use Rattle.std.proofs.Common.{◌≡◌, ◌++◌, take, drop}
use Rattle.sym_rules.specs.Cuts.{before, from}
use Rattle.sym_rules.proofs.cuts.cut_word.Given as goal

abbrev pub invariant-loop-at : goal.invariant-loop-at
invariant-loop-at l = record {
  word : before 32 l.bytes ≡ take l.at l.bytes ++ before 32 (drop l.at l.bytes);
  rest : from 32 l.bytes ≡ from 32 (drop l.at l.bytes);
}
