use Rattle.std.proofs.Common.{◌≡◌, ◌++◌, ◌^◌, ◌<◌, ◌≤◌, Some, take, drop}
use Rattle.sym_rules.specs.Cuts.{before, from}
use Rattle.sym_records.specs.FieldReading.{hex_onto}
use Rattle.sym_grammar.proofs.numbers.hex_field.Given as goal

abbrev pub invariant-loop-at : goal.invariant-loop-at
invariant-loop-at l = record {
  word : before 32 l.field ≡ take l.at l.field ++ before 32 (drop l.at l.field);
  rest : from 32 l.field ≡ from 32 (drop l.at l.field);
  value : hex_onto 0 (take l.at l.field) ≡ Some l.n;
  room : l.n < 16 ^ l.at;
  few : l.at ≤ 16;
}
