-- The definitions of this crate that a proof unfolds to compute a result from given bytes.
use Rattle.std.specs.Prelude.{⊤}
use Rattle.idna.specs.Punycode.{digit_value, scale, adapt, read_integer, insert_all, decode}
use Rattle.std.specs.Char.{encode_utf8}
use Rattle.std.specs.Fmt.{digits}
use Rattle.std.specs.Str.{chars, is_utf8}
use Rattle.clean_names.specs.Names.{is_name}
use Rattle.rust_names.specs.Digits.{digits_in_front, number_upto}
use Rattle.rust_names.specs.V0Words.{basic_type}
use Rattle.rust_names.specs.V0Numbers.{front, eat, base_62_from, base_62, after_letter, hex_digits, hex_from}
use Rattle.rust_names.specs.V0Identifiers.{after_separator, length_in_front, is_identifier, identifier, identifier_text}
use Rattle.rust_names.specs.V0Texts.{integer_text, escaped, bytes_of}
use Rattle.rust_names.specs.V0Leaves.{leaf_of, read_leaf}
use Rattle.rust_names.specs.V0Grammar.{nested_parts, path_parts, trait_parts, type_parts, reference_parts, value_parts, is_braced, constant_parts, deep_by, deep_parts, back_parts, any_type_parts, item_parts, ending, items_from, items_parts, argument_parts, bindings_parts, named_parts, borrow_parts, outlives_parts, convention_parts, fields_parts, part_after, returned_parts, phrase_parts, binder_parts, inner_parts}
use Rattle.rust_names.specs.V0Names.{read_level, text_within, v0_text}
use Rattle.rust_names.specs.Named.{named}
use Rattle.rust_names.specs.internal.Reading.{sign_of, code_of, piece_of, pieces_from, pieces_of, cut_of, part_of, parts_from, parts_of, is_tail, middle_of, legacy_of, pieces_text, parts_text, later_text}
use Rattle.rust_names.specs.internal.Finding.{shown_of}

unfoldable pub rust_names_computes : ⊤
unfolding digits_in_front number_upto basic_type front eat base_62_from base_62 after_letter hex_digits hex_from after_separator length_in_front is_identifier identifier identifier_text integer_text escaped bytes_of leaf_of read_leaf nested_parts path_parts trait_parts type_parts reference_parts value_parts is_braced constant_parts deep_by deep_parts back_parts any_type_parts item_parts ending items_from items_parts argument_parts bindings_parts named_parts borrow_parts outlives_parts convention_parts fields_parts part_after returned_parts phrase_parts binder_parts inner_parts read_level text_within v0_text named sign_of code_of piece_of pieces_from pieces_of cut_of part_of parts_from parts_of is_tail middle_of legacy_of pieces_text parts_text later_text shown_of digit_value scale adapt read_integer insert_all decode digits encode_utf8 chars is_utf8 is_name
rust_names_computes = tt
