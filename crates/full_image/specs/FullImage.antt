-- The image of a file whose sections of debugging information may be compressed. It differs from
-- the image of `elf_sections` as follows.
use Rattle.std.specs.Prelude.{ℕ, ◌^◌, ◌&&◌, Bool, true, false, List, [], Option, Some, None, Result, map, find, position, is_none, nat_lt, unwrap_or, if◌then◌else◌}
use Rattle.std.specs.List.{sum_by}
use Rattle.std.specs.Option.{option_map, option_or}
use Rattle.sym_edges.specs.Results.{fault_if}
use Rattle.sym_edges.specs.declared.part.Sect.{Sect}
use Rattle.sym_edges.specs.declared.part.Sect.TheVariants.{Info, Abbrev, Line, LineStr, Str, StrOffsets, Addr, Ranges, Rnglists, DebugFrame}
use Rattle.inflate.specs.Streams.{inflated}
use Rattle.elf_sections.specs.FileHeader.{header_fault}
use Rattle.elf_sections.specs.Sections.{sections, names, content, bytes_of, is_read, has_flag, names_fault}
use Rattle.elf_sections.specs.Image.{ImageParts, SectionPart, DebugSections, loaded_fault, parts_of, image_by, image, with_sections}
use Rattle.elf_sections.specs.ElfNumbers.{shf_compressed}
use Rattle.elf_sections.specs.declared.section.SectionHeader.{SectionHeader}
use Rattle.elf_sections.specs.declared.fault.ElfFault.{ElfFault}
use Rattle.elf_sections.specs.declared.fault.ElfFault.TheVariants.{SectionBytes, Compressed, InflatedTooLong, Inflate}
use Rattle.full_image.specs.Compressed.{Stream, is_called, is_packed, is_read_full, stream_in, stream_of}

-- the section is read, and its bytes extend past the end of the file
unfoldable pub is_cut : List ℕ → List ℕ → SectionHeader → Bool
is_cut file table s = is_read_full table s && is_none (content file s)

-- the section is compressed but cannot be inflated: it is one of debugging information without zlib
-- data, or another one that is read and has the flag
unfoldable pub is_refused : List ℕ → List ℕ → SectionHeader → Bool
is_refused file table s = if is_packed table s then is_none (stream_in file s) else is_read table s && has_flag shf_compressed s

-- the first fault of the sections: that of the first section that extends past the end of the file;
-- if there is none, that of the first one that is compressed but cannot be inflated
unfoldable pub sections_fault : List ℕ → Option ElfFault
sections_fault file = option_or
    (option_map SectionBytes (position (is_cut file (names file)) (sections file)))
    (option_map Compressed (position (is_refused file (names file)) (sections file)))

-- the compressed data of each section, for those that are compressed
unfoldable pub streams : List ℕ → List (Option Stream)
streams file = map (stream_of file (names file)) (sections file)

abbrev pub size_of : Option Stream → ℕ
size_of None = 0
size_of (Some s) = s.size

-- all data together inflates to more bytes than a file may have (2^29)
unfoldable pub are_too_long : List (Option Stream) → Bool
are_too_long all = nat_lt (2 ^ 29) (sum_by size_of all)

-- what the data inflates to, or `None` if the data is bad; a section that is not compressed gives no bytes
unfoldable pub outcome_of : Option Stream → Option (List ℕ)
outcome_of None = Some []
outcome_of (Some s) = inflated s.bytes s.size

-- the fault of the first section whose data is bad
abbrev pub inflate_fault : List (Option (List ℕ)) → Option ElfFault
inflate_fault outcomes = option_map Inflate (position is_none outcomes)

-- the bytes of a section, inflated if it is compressed
unfoldable pub full_bytes : List ℕ → SectionHeader → List ℕ
full_bytes file s = if is_packed (names file) s then unwrap_or (outcome_of (stream_in file s)) [] else bytes_of file s

-- the bytes and the address of a section; without a section, no bytes and address 0
abbrev pub full_part_of : List ℕ → Option SectionHeader → SectionPart
full_part_of file None = record { bytes = []; address = 0 }
full_part_of file (Some s) = record { bytes = full_bytes file s; address = s.address }

-- the first section with this name, in either spelling
unfoldable pub full_part : List ℕ → Sect → SectionPart
full_part file which = full_part_of file (find (is_called (names file) which) (sections file))

-- the sections of debugging information
unfoldable pub full_sections : List ℕ → DebugSections
full_sections file = record {
  info = full_part file Info;
  abbrevs = full_part file Abbrev;
  line = full_part file Line;
  line_str = full_part file LineStr;
  str = full_part file Str;
  str_offsets = full_part file StrOffsets;
  addr = full_part file Addr;
  ranges = full_part file Ranges;
  rnglists = full_part file Rnglists;
  debug_frame = full_part file DebugFrame;
}

-- the first fault of these: the twelve of an image in their order; that all data inflates to too
-- many bytes; that the data of a section is bad
unfoldable pub full_fault : List ℕ → Option ElfFault
full_fault file = option_or (header_fault file) (option_or (names_fault file) (option_or (sections_fault file) (option_or (loaded_fault file)
    (option_or (fault_if (are_too_long (streams file)) InflatedTooLong None) (inflate_fault (map outcome_of (streams file)))))))

-- the image of a file: its first fault, or its parts
unfoldable pub full_image : List ℕ → Result ImageParts ElfFault
full_image file = image_by (full_fault file) (with_sections (full_sections file) (parts_of file))

-- the image of a file, if its compressed sections are inflated (true) or refused (false)
abbrev pub any_image : Bool → List ℕ → Result ImageParts ElfFault
any_image true file = full_image file
any_image false file = image file

-- a file, and whether its compressed sections are inflated
pub record Packed : Type 0 where
  pub full : Bool
  pub file : List ℕ

-- the data of each section, and what it inflates to; both lists are empty if compressed sections are not inflated
abbrev pub streams_by : Bool → List ℕ → List (Option Stream)
streams_by true file = streams file
streams_by false file = []

unfoldable pub outcomes_of : Packed → List (Option (List ℕ))
outcomes_of p = map outcome_of (streams_by p.full p.file)
