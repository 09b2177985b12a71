-- The sections of debugging information in an image, and those of the supplementary file that was read with it (DWARF 5, 7.3.6).
use Rattle.std.specs.Prelude.{true, false, [], Option, None, Some}
use Rattle.std.specs.Option.{option_map}
use Rattle.elf_sections.specs.Image.{ImageParts, DebugSections as ImageDebug}
use Rattle.abbrev_units.specs.DebugSections.{DebugSections}

abbrev pub sections_of : ImageParts → DebugSections
sections_of image = record {
  info = image.info.bytes;
  abbrevs = image.abbrevs.bytes;
  line = image.line.bytes;
  line_str = image.line_str.bytes;
  strs = image.str.bytes;
  str_offsets = image.str_offsets.bytes;
  addr = image.addr.bytes;
  ranges = image.ranges.bytes;
  rnglists = image.rnglists.bytes;
  sup_strs = option_map (λ (sup : ImageDebug). sup.str.bytes) image.sup;
  is_sup = false;
}

-- the sections of a supplementary file: only its entries and their names are read, but no ranges or
-- line tables. Without a supplementary file there are no units
abbrev pub sup_sections_of : Option ImageDebug → DebugSections
sup_sections_of None = record {
  info = [];
  abbrevs = [];
  line = [];
  line_str = [];
  strs = [];
  str_offsets = [];
  addr = [];
  ranges = [];
  rnglists = [];
  sup_strs = None;
  is_sup = true;
}
sup_sections_of (Some sup) = record {
  info = sup.info.bytes;
  abbrevs = sup.abbrevs.bytes;
  line = [];
  line_str = sup.line_str.bytes;
  strs = sup.str.bytes;
  str_offsets = sup.str_offsets.bytes;
  addr = [];
  ranges = [];
  rnglists = [];
  sup_strs = None;
  is_sup = true;
}
