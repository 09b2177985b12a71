-- How the specs see `DebugParts`, the sections of debugging information of an image.
use Rattle.elf_sections.specs.Image.{DebugSections, part_view}
use Rattle.elf_sections.specs.declared.image.DebugParts.{DebugParts}

abbrev pub debug_view : DebugParts → DebugSections
debug_view d = record {
  info = part_view d.info;
  abbrevs = part_view d.abbrevs;
  line = part_view d.line;
  line_str = part_view d.line_str;
  str = part_view d.strs;
  str_offsets = part_view d.str_offsets;
  addr = part_view d.addr;
  ranges = part_view d.ranges;
  rnglists = part_view d.rnglists;
  debug_frame = part_view d.debug_frame;
}
