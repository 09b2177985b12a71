use Rattle.std.proofs.Common.{◌≡◌, true, ◌++◌, map, drop}
use Rattle.std.specs.List.{list_all}
use Rattle.sym_records.specs.Canon.{canon_text}
use Rattle.sym_records.specs.Validity.{fields_fit}
use Rattle.func_records.specs.internal.Parts.{inline_by, AreShort}
use Rattle.func_records.proofs.inlines.add_copies.Given as goal

abbrev pub invariant-copies : goal.invariant-copies
invariant-copies l = record {
  short : AreShort (drop l.place l.copies);
  text : l.text.items ++ canon_text (map (inline_by l.writer.base l.writer.numbers l.writer.units.now l.unit) (drop l.place l.copies)) ≡ l.fn.text.items ++ canon_text (map (inline_by l.writer.base l.writer.numbers l.writer.units.now l.unit) l.copies);
  fit : list_all fields_fit (map (inline_by l.writer.base l.writer.numbers l.writer.units.now l.unit) (drop l.place l.copies)) ≡ true → list_all fields_fit (map (inline_by l.writer.base l.writer.numbers l.writer.units.now l.unit) l.copies) ≡ true;
}
