-- Compressed sections of debugging information: those with the flag (System V gABI, "Section Compression"), and the older form of GNU tools, known by
-- the section's name.
use Rattle.std.specs.Prelude.{ℕ, ◌==◌, ◌&&◌, ◌||◌, Bool, List, [], ◌∷◌, ◌++◌, Option, Some, None, length, take, drop, nat_le, codes, if◌then◌else◌}
use Rattle.std.specs.List.{list_any}
use Rattle.std.specs.Str.{bytes_eq}
use Rattle.std.specs.Int.{from_be_bytes, w64}
use Rattle.sym_edges.specs.declared.part.Sect.{Sect}
use Rattle.sym_edges.specs.declared.part.Sect.TheVariants.{Info, Abbrev, Line, LineStr, Str, StrOffsets, Addr, Ranges, Rnglists, DebugFrame}
use Rattle.elf_sections.specs.Numbers.{u32_at, u64_at}
use Rattle.elf_sections.specs.Sections.{is_named, is_read, bytes_of, has_flag}
use Rattle.elf_sections.specs.Image.{name_of}
use Rattle.elf_sections.specs.ElfNumbers.{shf_compressed}
use Rattle.elf_sections.specs.declared.section.SectionHeader.{SectionHeader}

-- the sections of debugging information
abbrev pub debug_sections : List Sect
debug_sections = Info ∷ Abbrev ∷ Line ∷ LineStr ∷ Str ∷ StrOffsets ∷ Addr ∷ Ranges ∷ Rnglists ∷ DebugFrame ∷ []

-- the older spelling of a name: `.zdebug_info` for `.debug_info`
abbrev pub older_name : List ℕ → List ℕ
older_name name = codes ".z" ++ drop 1 name

-- the section has the older spelling of this name
unfoldable pub is_older : List ℕ → Sect → SectionHeader → Bool
is_older table which s = is_named table (older_name (name_of which)) s

-- the section has this name, in either spelling
unfoldable pub is_called : List ℕ → Sect → SectionHeader → Bool
is_called table which s = is_named table (name_of which) s || is_older table which s

-- the section is one of debugging information
unfoldable pub is_debug : List ℕ → SectionHeader → Bool
is_debug table s = list_any (λ which. is_called table which s) debug_sections

-- the section is one of debugging information, and its name has the older spelling
unfoldable pub is_spelled_older : List ℕ → SectionHeader → Bool
is_spelled_older table s = list_any (λ which. is_older table which s) debug_sections

-- the section is read: `elf_sections` reads it, or it is one of debugging information
unfoldable pub is_read_full : List ℕ → SectionHeader → Bool
is_read_full table s = is_read table s || is_debug table s

-- the section is one of debugging information and compressed: it has the flag, or its name has the
-- older spelling
unfoldable pub is_packed : List ℕ → SectionHeader → Bool
is_packed table s = is_debug table s && (has_flag shf_compressed s || is_spelled_older table s)

-- compressed data, and the number of bytes that it inflates to
pub record Stream : Type 0 where
  pub bytes : List ℕ
  pub size : ℕ

-- ch_type of data that zlib compressed (ELFCOMPRESS_ZLIB), and the size in bytes of an Elf64_Chdr
abbrev pub elfcompress_zlib : ℕ
elfcompress_zlib = 1

abbrev pub compression_header_size : ℕ
compression_header_size = 24

-- the data after an Elf64_Chdr, with ch_size as its inflated size; `None` if the header does not fit or has another type
unfoldable pub behind_header : List ℕ → Option Stream
behind_header content =
    if nat_le compression_header_size (length content) && (u32_at content 0 == elfcompress_zlib)
    then Some (record { bytes = drop compression_header_size content; size = u64_at content 8 }) else None

-- the data after the twelve bytes of the older form: `ZLIB`, and the inflated size as a u64 with the highest byte first; `None` if they are not there
unfoldable pub behind_magic : List ℕ → Option Stream
behind_magic content =
    if nat_le 12 (length content) && bytes_eq (take 4 content) (codes "ZLIB")
    then Some (record { bytes = drop 12 content; size = from_be_bytes w64 (drop 4 content) }) else None

-- the data of a section by its form: the flag takes precedence over the name
unfoldable pub stream_in : List ℕ → SectionHeader → Option Stream
stream_in file s = if has_flag shf_compressed s then behind_header (bytes_of file s) else behind_magic (bytes_of file s)

-- the data of a section, if the section is compressed
unfoldable pub stream_of : List ℕ → List ℕ → SectionHeader → Option Stream
stream_of file table s = if is_packed table s then stream_in file s else None
