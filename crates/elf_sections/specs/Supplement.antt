-- The image of a supplementary file, and a file that is read together with one (DWARF 5, 7.3.6).
use Rattle.std.specs.Prelude.{ℕ, List, [], Some, replicate}
use Rattle.elf_sections.specs.Image.{ImageParts, DebugSections, parts_of}

-- the parts of a supplementary file: its sections and its ids. It has neither segments nor code, so it has no base, no identity and no symbols
unfoldable pub sup_parts_of : List ℕ → ImageParts
sup_parts_of file = record (parts_of file) { base = 0; code = []; identity = replicate 16 0; symbols = [] }

-- the sections of debugging information of an image
abbrev pub debug_sections_of : ImageParts → DebugSections
debug_sections_of i = record {
  info = i.info;
  abbrevs = i.abbrevs;
  line = i.line;
  line_str = i.line_str;
  str = i.str;
  str_offsets = i.str_offsets;
  addr = i.addr;
  ranges = i.ranges;
  rnglists = i.rnglists;
  debug_frame = i.debug_frame;
}

-- the same image, with the sections of debugging information of its supplementary file
unfoldable pub with_sup : ImageParts → ImageParts → ImageParts
with_sup i sup = record i { sup = Some (debug_sections_of sup) }
