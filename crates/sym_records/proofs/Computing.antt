-- What a proof unfolds to compute the definitions of this crate where the input is written out.
use Rattle.std.specs.Prelude.{⊤}
use Rattle.clean_names.proofs.Computing.{clean_names_computes}
use Rattle.sym_rules.proofs.Computing.{sym_rules_computes}
use Rattle.sym_records.specs.Canon.{body, canon, canon_text}
use Rattle.sym_records.specs.FieldReading.{word_at, name_at, hex_digit, hex_onto, hex_value, hex_at, mark_at, decimal_value, decimal_at, marked_at, pairs_of, ranges_at, last_at, fields_at}
use Rattle.sym_records.specs.Fields.{spelled_range, is_field, are_ranges}
use Rattle.sym_records.specs.Reading.{lacks_module, with_text, with_lines, reading_within, reading}
use Rattle.sym_records.specs.Text.{key_of, cfi_key, stack_key, worded_key, keyed, key_at, record_at, line_read}
use Rattle.sym_records.specs.Validity.{fields_fit, first_bad_from, place_behind, first_bad}

unfoldable pub sym_records_computes : ⊤
unfolding sym_rules_computes clean_names_computes body canon canon_text word_at name_at hex_digit hex_onto hex_value hex_at mark_at decimal_value decimal_at marked_at pairs_of ranges_at last_at fields_at spelled_range is_field are_ranges lacks_module with_text with_lines reading_within reading key_of cfi_key stack_key worded_key keyed key_at record_at line_read fields_fit first_bad_from place_behind first_bad
sym_records_computes = tt
