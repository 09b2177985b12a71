-- The text of a value in a line table (DWARF 5, 6.2.4.1).
use Rattle.std.specs.Prelude.{ℕ, false, List, Option, None}
use Rattle.abbrev_units.specs.declared.value.Value.{Value}
use Rattle.abbrev_units.specs.DebugSections.{DebugSections}
use Rattle.abbrev_units.specs.Texts.{text_of}

-- a text in the line table itself, in `.debug_str` or in `.debug_line_str`. A text that is given by
-- a number is not found, since the str_offsets_base of a unit is not known here
abbrev pub line_text : DebugSections → Value → Option (List ℕ)
line_text sections value = text_of sections sections.line false None value
