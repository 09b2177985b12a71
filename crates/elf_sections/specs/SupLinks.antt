-- The sections that link a file to its supplementary file, or identify a file as a supplementary one (DWARF 5, 7.3.6; `.gnu_debugaltlink` is an older
-- GNU extension).
use Rattle.std.specs.Prelude.{ℕ, ◌==◌, ◌||◌, List, Option, Some, None, find, codes, if◌then◌else◌}
use Rattle.elf_sections.specs.Sections.{sections, names, is_named, has_flag, content}
use Rattle.elf_sections.specs.ElfNumbers.{sht_nobits, shf_compressed}
use Rattle.elf_sections.specs.declared.section.SectionHeader.{SectionHeader}
use Rattle.elf_sections.specs.declared.links.LinkSection.{LinkSection}
use Rattle.elf_sections.specs.declared.links.LinkSection.TheVariants as code

-- the content of one of these sections
pub data LinkPart : Type 0 where
  -- there is no section with this name
  Missing : LinkPart
  -- the section is compressed, has no bytes in the file, or extends past the end of the file
  Unreadable : LinkPart
  Held : (bytes : List ℕ) → LinkPart

-- the content, as the specs see it
abbrev pub link_view : LinkSection → LinkPart
link_view code.Missing = Missing
link_view code.Unreadable = Unreadable
link_view (code.Held bytes) = Held bytes.now

abbrev pub altlink_name : List ℕ
altlink_name = codes ".gnu_debugaltlink"

abbrev pub debug_sup_name : List ℕ
debug_sup_name = codes ".debug_sup"

abbrev pub held : Option (List ℕ) → LinkPart
held None = Unreadable
held (Some bytes) = Held bytes

-- the content of a section that may be missing
abbrev pub link_of : List ℕ → Option SectionHeader → LinkPart
link_of file None = Missing
link_of file (Some s) = if has_flag shf_compressed s || s.kind == sht_nobits then Unreadable else held (content file s)

-- the content of the first section with this name
unfoldable pub link_section : List ℕ → List ℕ → LinkPart
link_section file name = link_of file (find (is_named (names file) name) (sections file))
