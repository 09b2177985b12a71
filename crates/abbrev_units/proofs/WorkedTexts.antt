-- Worked examples: the texts of values (DWARF 5, 7.5.5 and 7.26).
use Rattle.std.proofs.Common.{◌≡◌, ℕ, Bool, true, false, List, [], Option, Some, None, codes, rules}
use Rattle.sym_edges.proofs.Hex.{hex}
use Rattle.abbrev_units.specs.declared.value.Value.{Value}
use Rattle.abbrev_units.specs.declared.value.Value.TheVariants as value
use Rattle.abbrev_units.specs.Texts.{text_of}
use Rattle.abbrev_units.proofs.Computing.{abbrev_units_computes}

-- The text of a value in a section that has `.pq` and a zero byte. `.debug_str_offsets` of the file
-- has a header of eight bytes and the numbers 3, 0, 1 and 0 of four bytes each; two of them
-- together are one number of eight bytes. The third text of `.debug_str` has no zero byte.
unfoldable text : Bool → Option ℕ → Value → Option (List ℕ)
unfolding hex
text wide base value =
    text_of (record {
      info = [];
      abbrevs = [];
      line = [];
      line_str = hex "78 79 00";
      strs = hex "6162 00 6364 00 6566";
      str_offsets = hex "14000000 05000000 03000000 00000000 01000000 00000000";
      addr = [];
      ranges = [];
      rnglists = [];
      sup_strs = None;
      is_sup = false;
    }) (hex "2e7071 00") wide base value

record Texts : Type 0 where
  -- Texts given by their places.
  a_text : text false None (value.StrAt 0) ≡ Some (codes "ab")
  inside_a_text : text false None (value.StrAt 1) ≡ Some (codes "b")
  an_empty_text : text false None (value.StrAt 2) ≡ Some []
  the_next_text : text true None (value.StrAt 3) ≡ Some (codes "cd")
  -- There is no zero byte after the text.
  without_a_zero : text false None (value.StrAt 6) ≡ None
  behind_the_section : text false None (value.StrAt 0xffffffff) ≡ None
  a_line_text : text false None (value.LineStrAt 1) ≡ Some (codes "y")
  no_line_text : text false None (value.LineStrAt 3) ≡ None
  -- A text inside the entry.
  in_place : text false None (value.InlineText 1) ≡ Some (codes "pq")
  -- Texts given by index: the offsets begin at the base, and have four bytes each, or eight in the
  -- 64-bit format.
  by_number : text false (Some 8) (value.StrIndex 0) ≡ Some (codes "cd")
  by_the_second_number : text false (Some 8) (value.StrIndex 1) ≡ Some (codes "ab")
  behind_the_last_number : text false (Some 8) (value.StrIndex 4) ≡ None
  the_last_number : text false (Some 8) (value.StrIndex 3) ≡ Some (codes "ab")
  wide_by_number : text true (Some 16) (value.StrIndex 0) ≡ Some (codes "b")
  wide_behind_the_last : text true (Some 16) (value.StrIndex 1) ≡ None
  a_number_beyond_u64 : text true (Some 16) (value.StrIndex 0xffffffffffffffff) ≡ None
  without_a_base : text false None (value.StrIndex 0) ≡ None
  another_class : text false (Some 8) (value.Num 0) ≡ None

texts : Texts
unfolding abbrev_units_computes text
texts = search rules
