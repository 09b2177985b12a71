-- The image of a file, or the first of its twelve possible faults.
use Rattle.std.specs.Prelude.{ℕ, ◌==◌, ◌&&◌, List, [], Option, Some, None, Result, Ok, Err, length, find, is_none, codes}
use Rattle.sym_edges.specs.Addresses.{Range}
use Rattle.sym_edges.specs.declared.part.Part.{Part}
use Rattle.sym_edges.specs.declared.part.Sect.{Sect}
use Rattle.sym_edges.specs.declared.part.Sect.TheVariants.{Info, Abbrev, Line, LineStr, Str, StrOffsets, Addr, Ranges, Rnglists, DebugFrame, EhFrame, Text}
use Rattle.sym_edges.specs.Results.{fault_if}
use Rattle.std.specs.Option.{option_or}
use Rattle.elf_sections.specs.FileHeader.{header_fault}
use Rattle.elf_sections.specs.Sections.{sections, names, is_named, bytes_of, names_fault, bytes_fault, compressed_fault}
use Rattle.elf_sections.specs.Programs.{program_fault, base, code}
use Rattle.elf_sections.specs.Notes.{build_id}
use Rattle.elf_sections.specs.Identity.{folded, front16}
use Rattle.elf_sections.specs.Symbols.{SymbolParts, symbols, symbols_fault}
use Rattle.elf_sections.specs.SupLinks.{LinkPart, link_section, altlink_name, debug_sup_name}
use Rattle.elf_sections.specs.declared.section.SectionHeader.{SectionHeader}
use Rattle.elf_sections.specs.declared.fault.ElfFault.{ElfFault}
use Rattle.elf_sections.specs.declared.fault.ElfFault.TheVariants.{NoIdentity}

-- the bytes of a section, and its address
pub record SectionPart : Type 0 where
  pub bytes : List ℕ
  pub address : ℕ

-- a part, as the specs see it
abbrev pub part_view : Part → SectionPart
part_view p = record { bytes = p.bytes.now; address = p.address }

-- the bytes and the address of a section; without a section, no bytes and address 0
abbrev pub part_of : List ℕ → Option SectionHeader → SectionPart
part_of file None = record { bytes = []; address = 0 }
part_of file (Some s) = record { bytes = bytes_of file s; address = s.address }

-- the first section with this name
unfoldable pub part_named : List ℕ → List ℕ → SectionPart
part_named file name = part_of file (find (is_named (names file) name) (sections file))

-- the section's name
abbrev pub name_of : Sect → List ℕ
name_of Info = codes ".debug_info"
name_of Abbrev = codes ".debug_abbrev"
name_of Line = codes ".debug_line"
name_of LineStr = codes ".debug_line_str"
name_of Str = codes ".debug_str"
name_of StrOffsets = codes ".debug_str_offsets"
name_of Addr = codes ".debug_addr"
name_of Ranges = codes ".debug_ranges"
name_of Rnglists = codes ".debug_rnglists"
name_of DebugFrame = codes ".debug_frame"
name_of EhFrame = codes ".eh_frame"
name_of Text = codes ".text"

-- how many bytes of `.text` give the identity of a file without a build id
abbrev pub identity_bytes : ℕ
identity_bytes = 4096

-- the identity: the first 16 bytes of the build id, or without a build id the exclusive or of the first bytes of `.text`
abbrev pub identity_of : List ℕ → Option (List ℕ) → List ℕ
identity_of text None = folded identity_bytes text
identity_of text (Some id) = front16 id

-- the fault `NoIdentity`, if the file has no build id and `.text` has no bytes
unfoldable pub identity_fault : List ℕ → Option ElfFault
identity_fault file = fault_if (is_none (build_id file) && (length (part_named file (name_of Text)).bytes == 0)) NoIdentity None

-- the first of the faults that come after those of the sections: of the program headers, the symbols and the identity
unfoldable pub loaded_fault : List ℕ → Option ElfFault
loaded_fault file = option_or (program_fault file) (option_or (symbols_fault file) (identity_fault file))

-- the first of the twelve faults, in their order
unfoldable pub image_fault : List ℕ → Option ElfFault
image_fault file = option_or (header_fault file) (option_or (names_fault file) (option_or (bytes_fault file)
    (option_or (compressed_fault file) (loaded_fault file))))

-- the sections of debugging information
pub record DebugSections : Type 0 where
  pub info : SectionPart
  pub abbrevs : SectionPart
  pub line : SectionPart
  pub line_str : SectionPart
  pub str : SectionPart
  pub str_offsets : SectionPart
  pub addr : SectionPart
  pub ranges : SectionPart
  pub rnglists : SectionPart
  pub debug_frame : SectionPart

-- an image: its sections by name, its base, code, build id, identity and function symbols.
-- `altlink` and `debug_sup` are the sections that link to a supplementary file; the latter may
-- instead say that the file is one. `sup` has the sections of the supplementary file that was read
-- with this file
pub record ImageParts : Type 0 where
  pub info : SectionPart
  pub abbrevs : SectionPart
  pub line : SectionPart
  pub line_str : SectionPart
  pub str : SectionPart
  pub str_offsets : SectionPart
  pub addr : SectionPart
  pub ranges : SectionPart
  pub rnglists : SectionPart
  pub debug_frame : SectionPart
  pub eh_frame : SectionPart
  pub text : SectionPart
  pub base : ℕ
  pub code : List Range
  pub build_id : Option (List ℕ)
  pub identity : List ℕ
  pub symbols : List SymbolParts
  pub altlink : LinkPart
  pub debug_sup : LinkPart
  pub sup : Option DebugSections

-- the parts of the image of a file, as if it had no fault
unfoldable pub parts_of : List ℕ → ImageParts
parts_of file = record {
  info = part_named file (name_of Info);
  abbrevs = part_named file (name_of Abbrev);
  line = part_named file (name_of Line);
  line_str = part_named file (name_of LineStr);
  str = part_named file (name_of Str);
  str_offsets = part_named file (name_of StrOffsets);
  addr = part_named file (name_of Addr);
  ranges = part_named file (name_of Ranges);
  rnglists = part_named file (name_of Rnglists);
  debug_frame = part_named file (name_of DebugFrame);
  eh_frame = part_named file (name_of EhFrame);
  text = part_named file (name_of Text);
  base = base file;
  code = code file;
  build_id = build_id file;
  identity = identity_of (part_named file (name_of Text)).bytes (build_id file);
  symbols = symbols file;
  altlink = link_section file altlink_name;
  debug_sup = link_section file debug_sup_name;
  sup = None;
}

abbrev pub image_by : Option ElfFault → ImageParts → Result ImageParts ElfFault
image_by None parts = Ok parts
image_by (Some fault) parts = Err fault

-- the image of a file: its first fault, or its parts
unfoldable pub image : List ℕ → Result ImageParts ElfFault
image file = image_by (image_fault file) (parts_of file)

-- the same image with these sections of debugging information in place of its own
unfoldable pub with_sections : DebugSections → ImageParts → ImageParts
with_sections debug i = record {
  info = debug.info;
  abbrevs = debug.abbrevs;
  line = debug.line;
  line_str = debug.line_str;
  str = debug.str;
  str_offsets = debug.str_offsets;
  addr = debug.addr;
  ranges = debug.ranges;
  rnglists = debug.rnglists;
  debug_frame = debug.debug_frame;
  eh_frame = i.eh_frame;
  text = i.text;
  base = i.base;
  code = i.code;
  build_id = i.build_id;
  identity = i.identity;
  symbols = i.symbols;
  altlink = i.altlink;
  debug_sup = i.debug_sup;
  sup = i.sup;
}

-- one of the twelve sections of an image
abbrev pub section_of : ImageParts → Sect → SectionPart
section_of i Info = i.info
section_of i Abbrev = i.abbrevs
section_of i Line = i.line
section_of i LineStr = i.line_str
section_of i Str = i.str
section_of i StrOffsets = i.str_offsets
section_of i Addr = i.addr
section_of i Ranges = i.ranges
section_of i Rnglists = i.rnglists
section_of i DebugFrame = i.debug_frame
section_of i EhFrame = i.eh_frame
section_of i Text = i.text
