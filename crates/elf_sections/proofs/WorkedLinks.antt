-- Worked examples: the sections that link to a supplementary file, and what is read of such a file.
use Rattle.std.proofs.Common.{◌≡◌, ◌+◌, ◌*◌, ℕ, List, [], ◌∷◌, take, codes, Some, None, refl}
use Rattle.std.specs.Prelude.{slice_set}
use Rattle.elf_sections.specs.declared.fault.ElfFault.TheVariants.{NotElf, Class, Order, Machine, SectionTable}
use Rattle.elf_sections.specs.FileHeader.{sup_header_fault}
use Rattle.elf_sections.specs.SupLinks.{LinkPart, Missing, Unreadable, Held, altlink_name, debug_sup_name, link_section}
use Rattle.elf_sections.specs.Image.{SectionPart, ImageParts, parts_of}
use Rattle.elf_sections.specs.Pair.{paired}
use Rattle.elf_sections.specs.Supplement.{sup_parts_of, debug_sections_of, with_sup}
use Rattle.sym_edges.proofs.Hex.{bytes}
use Rattle.elf_sections.proofs.Computing.{elf_sections_computes}
use Rattle.elf_sections.proofs.Elf.{Section, plain, code_at, file_of, note, elf_builds}

-- A section with this name, type and flags.
abbrev section : List ℕ → ℕ → ℕ → List ℕ → Section
section name kind flags content = record { name = name; kind = kind; flags = flags; address = 0; link = 0; content = content }

-- A file of code and two more sections, which have the numbers 2 and 3.
abbrev with_two : Section → Section → List ℕ
with_two first second = file_of 0 (plain [] 0 [] ∷ code_at 0x1000 (bytes (codes "55905dc3")) ∷ first ∷ second ∷ [])

-- The place of a section header.
abbrev header_at : ℕ → ℕ
header_at number = 120 + 64 * number

-- The content of the section that links, in a file with two more sections.
abbrev leads : Section → Section → LinkPart
leads first second = link_section (with_two first second) altlink_name

held : leads (plain (codes ".debug_sup") 1 (codes "x")) (plain (codes ".gnu_debugaltlink") 1 (codes "s\0id")) ≡ Held (codes "s\0id")
unfolding elf_sections_computes elf_builds
held = refl

no_bytes : leads (plain [] 1 []) (plain (codes ".gnu_debugaltlink") 1 []) ≡ Held []
unfolding elf_sections_computes elf_builds
no_bytes = refl

-- The sections have other names.
missing : leads (plain (codes ".gnu_debugaltlink2") 1 (codes "s\0id")) (plain (codes ".gnu_debuglink") 1 (codes "s\0id")) ≡ Missing
unfolding elf_sections_computes elf_builds
missing = refl

-- SHF_COMPRESSED.
compressed : leads (plain [] 1 []) (section (codes ".gnu_debugaltlink") 1 0x800 (codes "s\0id")) ≡ Unreadable
unfolding elf_sections_computes elf_builds
compressed = refl

-- SHT_NOBITS.
not_in_the_file : leads (plain [] 1 []) (section (codes ".gnu_debugaltlink") 8 0 (codes "s\0id")) ≡ Unreadable
unfolding elf_sections_computes elf_builds
not_in_the_file = refl

-- The highest byte of sh_size is not 0.
leaves_the_file : link_section (slice_set (with_two (plain [] 1 []) (plain (codes ".debug_sup") 1 (codes "x"))) (header_at 3 + 39) 1) debug_sup_name ≡ Unreadable
unfolding elf_sections_computes elf_builds
leaves_the_file = refl

-- The first section of the name counts.
first_counts : leads (section (codes ".gnu_debugaltlink") 1 0x800 (codes "a\0id")) (plain (codes ".gnu_debugaltlink") 1 (codes "b\0id")) ≡ Unreadable
unfolding elf_sections_computes elf_builds
first_counts = refl

first_held : leads (plain (codes ".gnu_debugaltlink") 1 (codes "a\0id")) (section (codes ".gnu_debugaltlink") 8 0 (codes "b\0id")) ≡ Held (codes "a\0id")
unfolding elf_sections_computes elf_builds
first_held = refl

-- A supplementary file: a build id, entries, strings, and `.debug_sup`.
abbrev supplement : List ℕ
supplement = slice_set (file_of 0x400 (plain [] 0 [] ∷ plain (codes ".note.gnu.build-id") 7 (note (bytes (codes "0a0b")))
    ∷ plain (codes ".debug_info") 1 (codes "entries") ∷ plain (codes ".debug_str") 1 (codes "strings") ∷ plain (codes ".debug_sup") 1 (codes "sup") ∷ [])) 16 1

-- The types ET_REL, ET_EXEC and ET_CORE are no fault.
of_any_type : sup_header_fault supplement ∷ sup_header_fault (slice_set supplement 16 2) ∷ sup_header_fault (slice_set supplement 16 4) ∷ [] ≡ None ∷ None ∷ None ∷ []
unfolding elf_sections_computes elf_builds
of_any_type = refl

-- The other faults of the header.
other_faults : sup_header_fault (take 63 supplement) ∷ sup_header_fault (slice_set supplement 4 1) ∷ sup_header_fault (slice_set supplement 5 2) ∷ sup_header_fault (slice_set supplement 18 3) ∷ sup_header_fault (slice_set supplement 58 40) ∷ []
    ≡ Some NotElf ∷ Some Class ∷ Some Order ∷ Some Machine ∷ Some SectionTable ∷ []
unfolding elf_sections_computes elf_builds
other_faults = refl

abbrev part : List ℕ → SectionPart
part content = record { bytes = content; address = 0 }

-- What is read of the supplementary file.
supplement_parts : sup_parts_of supplement ≡ record {
  info = part (codes "entries");
  abbrevs = part [];
  line = part [];
  line_str = part [];
  str = part (codes "strings");
  str_offsets = part [];
  addr = part [];
  ranges = part [];
  rnglists = part [];
  debug_frame = part [];
  eh_frame = part [];
  text = part [];
  base = 0;
  code = [];
  build_id = Some (bytes (codes "0a0b"));
  identity = bytes (codes "00000000000000000000000000000000");
  symbols = [];
  altlink = Missing;
  debug_sup = Held (codes "sup");
  sup = None;
}
unfolding elf_sections_computes elf_builds
supplement_parts = refl

abbrev binary : ImageParts
binary = parts_of (with_two (plain (codes ".gnu_debugaltlink") 1 (codes "a\0id")) (plain (codes ".debug_info") 1 (codes "own")))

abbrev debug : ImageParts
debug = parts_of (with_two (plain (codes ".debug_sup") 1 (codes "d")) (plain (codes ".debug_info") 1 (codes "its")))

abbrev together : ImageParts
together = with_sup debug (sup_parts_of supplement)

-- The image has its own sections and those of its supplementary file.
read_together : together ≡ record debug { sup = Some (debug_sections_of (sup_parts_of supplement)) }
unfolding elf_sections_computes elf_builds
read_together = refl

-- With a debug file, the link is that of the debug file.
whose_link : (paired binary debug).altlink ∷ (paired binary debug).debug_sup ∷ [] ≡ Missing ∷ Held (codes "d") ∷ []
unfolding elf_sections_computes elf_builds
whose_link = refl

whose_supplement : (paired binary together).sup ≡ together.sup
unfolding elf_sections_computes elf_builds
whose_supplement = refl
