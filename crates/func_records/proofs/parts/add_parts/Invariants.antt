use Rattle.std.proofs.Common.{◌≡◌, take, drop}
use Rattle.sym_records.specs.Spelled.{text_bytes}
use Rattle.func_records.specs.internal.Origins.{all_numbers}
use Rattle.func_records.specs.internal.Parts.{AddsParts}
use Rattle.func_records.proofs.parts.add_parts.Given as goal

abbrev pub invariant-pieces : goal.invariant-pieces
invariant-pieces l = record {
  adds : AddsParts l.writer.base l.writer.numbers l.writer.units.now (take l.place l.pieces) (take l.place l.held) (text_bytes l.fn.text) (text_bytes l.text);
  later : l.rest ≡ all_numbers l.writer.numbers l.writer.units.now (drop l.place l.pieces) (drop l.place l.held);
}
