-- The text of a value of class string (DWARF 5, 7.5.5 and 7.26).
use Rattle.std.specs.Prelude.{ℕ, ◌+◌, ◌*◌, Bool, if◌then◌else◌, List, drop, Option, None, Some, option_and_then, Result, Ok, Err}
use Rattle.std.specs.Option.{option_map}
use Rattle.leb_cursor.specs.Ahead.{Ahead}
use Rattle.leb_cursor.specs.Readings.{fixed_at, text_at}
use Rattle.text_table.specs.Spaces.{held_text}
use Rattle.abbrev_units.specs.declared.value.Value.{Value}
use Rattle.abbrev_units.specs.declared.value.Value.TheVariants as value
use Rattle.abbrev_units.specs.DebugSections.{DebugSections}

-- the bytes of a section from a place on
abbrev pub ahead_from : ℕ → List ℕ → Ahead
ahead_from place bytes = record { bytes = drop place bytes; at = place }

-- what was read, or none if the reading has a fault
abbrev pub read_or_none : {A E : Type 0} → Result (A × Ahead) E → Option A
read_or_none (Ok x) = Some x.0
read_or_none (Err fault) = None

-- what is held of the zero-terminated text at a place of a section
unfoldable pub text_in : List ℕ → ℕ → Option (List ℕ)
text_in bytes place = option_map held_text (read_or_none (text_at (ahead_from place bytes)))

-- the number of `width` bytes at a place of a section
unfoldable pub number_in : ℕ → List ℕ → ℕ → Option ℕ
number_in width bytes place = read_or_none (fixed_at width (ahead_from place bytes))

-- the size of a section offset: four bytes, or eight in the 64-bit format (DWARF 5, 7.4)
abbrev pub place_width : Bool → ℕ
place_width wide = if wide then 8 else 4

-- the place of a text, given its index: `.debug_str_offsets` has the offset of each text, from the unit's base on; none without a base
abbrev pub text_place : List ℕ → Bool → Option ℕ → ℕ → Option ℕ
text_place offsets wide None index = None
text_place offsets wide (Some base) index = number_in (place_width wide) offsets (base + place_width wide * index)

-- the text of a value; `home` is the section that the value is in, and `base` the unit's str_offsets_base
unfoldable pub text_of : DebugSections → List ℕ → Bool → Option ℕ → Value → Option (List ℕ)
text_of sections home wide base (value.InlineText place) = text_in home place
text_of sections home wide base (value.StrAt place) = text_in sections.strs place
text_of sections home wide base (value.LineStrAt place) = text_in sections.line_str place
text_of sections home wide base (value.StrIndex index) = option_and_then (text_in sections.strs) (text_place sections.str_offsets wide base index)
text_of sections home wide base _ = None
