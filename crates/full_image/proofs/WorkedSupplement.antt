-- Worked examples: supplementary files, and what is read of them.
use Rattle.std.proofs.Common.{◌≡◌, ◌+◌, ◌++◌, ℕ, List, [], ◌∷◌, codes, Some, None, Result, Ok, Err, refl}
use Rattle.std.specs.Prelude.{slice_set}
use Rattle.elf_sections.specs.Image.{ImageParts, SectionPart}
use Rattle.elf_sections.specs.SupLinks.{Missing, Held}
use Rattle.elf_sections.specs.declared.fault.ElfFault.{ElfFault}
use Rattle.elf_sections.specs.declared.fault.ElfFault.TheVariants.{NotElf, Class, SectionTable, SectionNames, SectionBytes, Compressed, InflatedTooLong, Inflate}
use Rattle.elf_sections.proofs.Elf.{Section, plain, code_at, file_of, note, elf_builds}
use Rattle.sym_edges.proofs.Hex.{bytes}
use Rattle.full_image.specs.SupImage.{sup_image}
use Rattle.full_image.proofs.Computing.{full_image_computes}

-- A section with this name and these flags.
abbrev of_flags : List ℕ → ℕ → List ℕ → Section
of_flags name flags content = record { name = name; kind = 1; flags = flags; address = 0; link = 0; content = content }

-- A relocatable file (ET_REL) with these sections.
abbrev relocatable : List Section → List ℕ
relocatable sections = slice_set (file_of 0x400 (plain [] 0 [] ∷ sections)) 16 1

-- A compression header, and the bytes `abc` as zlib data after it.
abbrev chdr : List ℕ → List ℕ
chdr header = bytes header ++ bytes (codes "789c4b4c4a060002 4d0127")

abbrev abc : List ℕ
abc = chdr (codes "01000000 00000000 0300000000000000 0100000000000000")

abbrev part : List ℕ → SectionPart
part content = record { bytes = content; address = 0 }

-- Compressed strings, entries that are not compressed, a build id, and `.debug_sup`. There is code,
-- which does not count.
whole : sup_image (relocatable (of_flags (codes ".debug_str") 0x800 abc ∷ plain (codes ".debug_info") 1 (codes "de")
    ∷ plain (codes ".note.gnu.build-id") 7 (note (1 ∷ 2 ∷ [])) ∷ plain (codes ".debug_sup") 1 (codes "sup") ∷ code_at 0x1000 (bytes (codes "55905dc3")) ∷ []))
    ≡ Ok (record {
      info = part (codes "de");
      abbrevs = part [];
      line = part [];
      line_str = part [];
      str = part (codes "abc");
      str_offsets = part [];
      addr = part [];
      ranges = part [];
      rnglists = part [];
      debug_frame = part [];
      eh_frame = part [];
      text = record { bytes = bytes (codes "55905dc3"); address = 0x1000 };
      base = 0;
      code = [];
      build_id = Some (1 ∷ 2 ∷ []);
      identity = bytes (codes "00000000000000000000000000000000");
      symbols = [];
      altlink = Missing;
      debug_sup = Held (codes "sup");
      sup = None;
    })
unfolding full_image_computes elf_builds
whole = refl

-- The bytes of `.debug_info` and `.debug_str`, or the fault.
abbrev says : Result ImageParts ElfFault → Result (List ℕ × List ℕ) ElfFault
says (Ok i) = Ok (i.info.bytes, i.str.bytes)
says (Err fault) = Err fault

abbrev read : Section → Section → Result (List ℕ × List ℕ) ElfFault
read first second = says (sup_image (relocatable (first ∷ second ∷ [])))

-- Segments, symbols and an identity are not needed.
nothing_else : says (sup_image (slice_set (slice_set (relocatable (plain (codes ".debug_info") 1 (codes "de") ∷ plain (codes ".symtab") 2 [] ∷ [])) 54 55) 39 1)) ≡ Ok (codes "de", [])
unfolding full_image_computes elf_builds
nothing_else = refl

-- A section in the older form.
older : read (of_flags (codes ".zdebug_info") 0 (bytes (codes "5a4c4942 0000000000000003 789c4b4c4a060002 4d0127"))) (plain (codes ".debug_info") 1 (codes "de")) ≡ Ok (codes "abc", [])
unfolding full_image_computes elf_builds
older = refl

-- The faults that remain: those of the header, of the names and of the bytes of sections.
header_faults : says (sup_image (codes "text")) ∷ says (sup_image (slice_set (relocatable []) 4 1)) ∷ says (sup_image (slice_set (relocatable []) 58 40)) ∷ says (sup_image (slice_set (relocatable []) 62 2)) ∷ []
    ≡ Err NotElf ∷ Err Class ∷ Err SectionTable ∷ Err SectionNames ∷ []
unfolding full_image_computes elf_builds
header_faults = refl

-- The highest byte of sh_size of section 1 is not 0.
leaves_the_file : says (sup_image (slice_set (relocatable (plain (codes ".debug_info") 1 (codes "de") ∷ [])) (120 + 64 + 39) 1)) ≡ Err (SectionBytes 1)
unfolding full_image_computes elf_builds
leaves_the_file = refl

-- Another type of compression, too many bytes, and bad data.
not_inflated : read (plain [] 1 []) (of_flags (codes ".debug_str") 0x800 (chdr (codes "02000000 00000000 0300000000000000 0100000000000000"))) ≡ Err (Compressed 2)
unfolding full_image_computes elf_builds
not_inflated = refl

too_long : read (plain [] 1 []) (of_flags (codes ".debug_str") 0x800 (chdr (codes "01000000 00000000 0100002000000000 0100000000000000"))) ≡ Err InflatedTooLong
unfolding full_image_computes elf_builds
too_long = refl

bad_data : read (of_flags (codes ".debug_info") 0x800 abc) (of_flags (codes ".debug_str") 0x800 (chdr (codes "01000000 00000000 0200000000000000 0100000000000000"))) ≡ Err (Inflate 2)
unfolding full_image_computes elf_builds
bad_data = refl
