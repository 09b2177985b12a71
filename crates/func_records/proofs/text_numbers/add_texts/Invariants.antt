use Rattle.std.proofs.Common.{◌≡◌, None, take, ◌++◌}
use Rattle.sym_records.specs.Canon.{canon_text}
use Rattle.sym_records.specs.Spelled.{text_bytes}
use Rattle.sym_records.specs.Validity.{first_bad_from}
use Rattle.sym_records.specs.declared.place.Place.TheVariants.{Inside}
use Rattle.func_records.specs.FuncRecords.{numbered_lines}
use Rattle.func_records.specs.internal.Numbering.{numbered}
use Rattle.func_records.specs.internal.Gathering.{bytes_of}
use Rattle.func_records.proofs.text_numbers.add_texts.Given as goal

abbrev pub invariant-texts : goal.invariant-texts
invariant-texts l = record {
  text : text_bytes l.text ≡ text_bytes l.fn.text ++ canon_text (numbered_lines (numbered l.numbering) 0 (take l.number (bytes_of l.texts)));
  fit : first_bad_from 0 Inside (numbered_lines (numbered l.numbering) 0 (take l.number (bytes_of l.texts))) ≡ None;
}
