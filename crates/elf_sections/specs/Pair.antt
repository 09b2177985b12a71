-- A stripped binary and its separate debug file as one image (GDB manual, "Debugging Information in Separate Files").
use Rattle.std.specs.Prelude.{List, [], ◌∷◌}
use Rattle.std.specs.List.{filter}
use Rattle.sym_edges.specs.Addresses.{Range}
use Rattle.elf_sections.specs.Programs.{is_in_code}
use Rattle.elf_sections.specs.Symbols.{SymbolParts}
use Rattle.elf_sections.specs.Image.{ImageParts}

-- the symbols of the debug file if it has any, else those of the binary
abbrev pub first_symbols : List SymbolParts → List SymbolParts → List SymbolParts
first_symbols binary [] = binary
first_symbols binary (s ∷ debug) = s ∷ debug

-- the symbols whose addresses lie in code
unfoldable pub symbols_in : List Range → List SymbolParts → List SymbolParts
symbols_in ranges found = filter (λ s. is_in_code ranges s.address) found

-- the image of both files. The loaded sections, the base, the code and the ids are those of the
-- binary, since the debug file has no bytes for loaded sections. All other sections are those of
-- the debug file. The symbols are those of one of the files (`first_symbols`), as far as their
-- addresses are in the binary's code
unfoldable pub paired : ImageParts → ImageParts → ImageParts
paired binary debug = record {
  info = debug.info;
  abbrevs = debug.abbrevs;
  line = debug.line;
  line_str = debug.line_str;
  str = debug.str;
  str_offsets = debug.str_offsets;
  addr = debug.addr;
  ranges = debug.ranges;
  rnglists = debug.rnglists;
  debug_frame = debug.debug_frame;
  eh_frame = binary.eh_frame;
  text = binary.text;
  base = binary.base;
  code = binary.code;
  build_id = binary.build_id;
  identity = binary.identity;
  symbols = symbols_in binary.code (first_symbols binary.symbols debug.symbols);
  altlink = debug.altlink;
  debug_sup = debug.debug_sup;
  sup = debug.sup;
}
