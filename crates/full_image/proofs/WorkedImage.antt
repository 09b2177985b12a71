-- Worked examples: files with compressed sections, and what is read of them.
use Rattle.std.proofs.Common.{◌≡◌, ◌++◌, true, false, ℕ, List, [], ◌∷◌, codes, Result, Ok, Err, refl}
use Rattle.elf_sections.specs.Image.{ImageParts}
use Rattle.elf_sections.specs.declared.fault.ElfFault.{ElfFault}
use Rattle.elf_sections.specs.declared.fault.ElfFault.TheVariants.{Compressed, InflatedTooLong, Inflate}
use Rattle.elf_sections.proofs.Elf.{Section, plain, code_at, file_of, elf_builds}
use Rattle.sym_edges.proofs.Hex.{bytes}
use Rattle.full_image.specs.FullImage.{any_image}
use Rattle.full_image.proofs.Computing.{full_image_computes}

-- A section with this name and these flags.
abbrev of_flags : List ℕ → ℕ → List ℕ → Section
of_flags name flags content = record { name = name; kind = 1; flags = flags; address = 0; link = 0; content = content }

-- A file of code and two more sections.
abbrev with_two : Section → Section → List ℕ
with_two first second = file_of 0 (plain [] 0 [] ∷ code_at 0x1000 (bytes (codes "55905dc3")) ∷ first ∷ second ∷ [])

-- The bytes `abc` as zlib data, an Elf64_Chdr of type 1 and size 3, and the twelve bytes of the
-- older form.
abbrev abc : List ℕ
abc = bytes (codes "789c4b4c4a060002 4d0127")

abbrev headed : List ℕ → List ℕ
headed header = bytes header ++ abc

abbrev chdr : List ℕ
chdr = headed (codes "01000000 00000000 0300000000000000 0100000000000000")

abbrev zlib : List ℕ
zlib = headed (codes "5a4c4942 0000000000000003")

-- The bytes of `.debug_info`, `.debug_str` and `.debug_line`, or the fault.
abbrev says : Result ImageParts ElfFault → Result (List ℕ × List ℕ × List ℕ) ElfFault
says (Ok i) = Ok (i.info.bytes, i.str.bytes, i.line.bytes)
says (Err fault) = Err fault

abbrev read : Section → Section → Result (List ℕ × List ℕ × List ℕ) ElfFault
read first second = says (any_image true (with_two first second))

-- A section with the flag.
flagged : read (of_flags (codes ".debug_info") 0x800 chdr) (plain (codes ".debug_str") 1 (codes "de")) ≡ Ok (codes "abc", codes "de", [])
unfolding full_image_computes elf_builds
flagged = refl

-- A section with the older name, which counts as the name.
older : read (of_flags (codes ".zdebug_info") 0 zlib) (plain (codes ".debug_info") 1 (codes "de")) ≡ Ok (codes "abc", [], [])
unfolding full_image_computes elf_builds
older = refl

-- A section with the flag and the older name: the flag counts.
flagged_older : read (of_flags (codes ".zdebug_str") 0x800 chdr) (of_flags (codes ".zdebug_line") 0 zlib) ≡ Ok ([], codes "abc", codes "abc")
unfolding full_image_computes elf_builds
flagged_older = refl

-- The first section of a name counts, but the data of all must be good.
second_bad : read (of_flags (codes ".debug_info") 0x800 chdr) (of_flags (codes ".debug_info") 0x800 (headed (codes "01000000 00000000 0200000000000000 0100000000000000"))) ≡ Err (Inflate 3)
unfolding full_image_computes elf_builds
second_bad = refl

-- Another type, a header that does not fit, and another word than `ZLIB`.
other_type : read (of_flags (codes ".debug_info") 0x800 (headed (codes "02000000 00000000 0300000000000000 0100000000000000"))) (plain [] 1 []) ≡ Err (Compressed 2)
unfolding full_image_computes elf_builds
other_type = refl

short_header : read (plain [] 1 []) (of_flags (codes ".debug_info") 0x800 (bytes (codes "01000000 00000000 0000000000000000 00000000000000"))) ≡ Err (Compressed 3)
unfolding full_image_computes elf_builds
short_header = refl

other_magic : read (of_flags (codes ".zdebug_info") 0 (headed (codes "5a4c4943 0000000000000003"))) (plain [] 1 []) ≡ Err (Compressed 2)
unfolding full_image_computes elf_builds
other_magic = refl

-- A section with the flag that is not one of debugging information, and a name `.zdebug_` that is
-- not one of these.
other_flagged : read (of_flags (codes ".eh_frame") 0x800 chdr) (plain [] 1 []) ≡ Err (Compressed 2)
unfolding full_image_computes elf_builds
other_flagged = refl

other_older : read (of_flags (codes ".zdebug_types") 0 (codes "x")) (plain (codes ".debug_info") 1 (codes "de")) ≡ Ok (codes "de", [], [])
unfolding full_image_computes elf_builds
other_older = refl

-- Data that inflates to no bytes.
none_needed : read (of_flags (codes ".debug_info") 0x800 (bytes (codes "01000000 00000000 0000000000000000 0100000000000000"))) (plain [] 1 []) ≡ Ok ([], [], [])
unfolding full_image_computes elf_builds
none_needed = refl

-- 2^29 bytes and one more in two sections; this fault is found before bad data.
too_long : read (of_flags (codes ".debug_info") 0x800 (headed (codes "01000000 00000000 0000002000000000 0100000000000000"))) (of_flags (codes ".zdebug_str") 0 (headed (codes "5a4c4942 0000000000000001"))) ≡ Err InflatedTooLong
unfolding full_image_computes elf_builds
too_long = refl

-- Compressed sections are refused if the caller does not want them inflated.
not_asked : says (any_image false (with_two (of_flags (codes ".debug_info") 0x800 chdr) (plain [] 1 []))) ≡ Err (Compressed 2)
unfolding full_image_computes elf_builds
not_asked = refl

older_not_asked : says (any_image false (with_two (of_flags (codes ".zdebug_info") 0 zlib) (plain [] 1 []))) ≡ Err (Compressed 2)
unfolding full_image_computes elf_builds
older_not_asked = refl
