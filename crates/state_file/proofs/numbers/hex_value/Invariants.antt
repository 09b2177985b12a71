use Rattle.std.proofs.Common.{◌≡◌, ◌^◌, ◌<◌, drop}
use Rattle.sym_records.specs.FieldReading.{hex_onto}
use Rattle.state_file.proofs.numbers.hex_value.Given as goal

abbrev pub invariant-digits : goal.invariant-digits
invariant-digits l = record {
  value : hex_onto 0 l.word ≡ hex_onto l.n (drop l.at l.word);
  room : l.n < 16 ^ l.at;
}
