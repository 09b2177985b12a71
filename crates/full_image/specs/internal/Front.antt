-- What is known of a file before anything is inflated.
use Rattle.std.specs.Prelude.{◌≡◌, ◌<◌, ◌^◌, ℕ, length, Bool, true, false, List, [], Option, None, unwrap_or, slice_get, if◌then◌else◌}
use Rattle.std.specs.Option.{option_or}
use Rattle.sym_edges.specs.Results.{fault_if}
use Rattle.elf_sections.specs.FileHeader.{header_fault}
use Rattle.elf_sections.specs.Sections.{names, bytes_of, names_fault, bytes_fault, compressed_fault}
use Rattle.elf_sections.specs.Image.{ImageParts, loaded_fault, parts_of, with_sections}
use Rattle.elf_sections.specs.declared.section.SectionHeader.{SectionHeader}
use Rattle.elf_sections.specs.declared.fault.ElfFault.{ElfFault}
use Rattle.elf_sections.specs.declared.fault.ElfFault.TheVariants.{InflatedTooLong}
use Rattle.full_image.specs.Compressed.{Stream, is_packed}
use Rattle.full_image.specs.FullImage.{sections_fault, are_too_long, full_sections, streams_by}

-- the first fault of the sections, if compressed ones are inflated (true) or refused (false)
abbrev pub tables_fault : Bool → List ℕ → Option ElfFault
tables_fault true file = sections_fault file
tables_fault false file = option_or (bytes_fault file) (compressed_fault file)

-- the first fault before anything is inflated
unfoldable pub front_fault : Bool → List ℕ → Option ElfFault
front_fault full file = option_or (header_fault file) (option_or (names_fault file) (option_or (tables_fault full file)
    (option_or (loaded_fault file) (fault_if (are_too_long (streams_by full file)) InflatedTooLong None))))

-- the parts of the image of a file, as if it had no fault
abbrev pub parts_by : Bool → List ℕ → ImageParts
parts_by true file = with_sections (full_sections file) (parts_of file)
parts_by false file = parts_of file

-- the bytes of the section with this index, given what the compressed sections inflated to
abbrev pub bytes_by : List (Option (List ℕ)) → List ℕ → ℕ → SectionHeader → List ℕ
bytes_by outcomes file index s =
    if is_packed (names file) s then unwrap_or (unwrap_or (slice_get outcomes index) None) [] else bytes_of file s

-- what the code stores of a file that has no fault before anything is inflated
pub record IsFront (full : Bool) (file : List ℕ) (plain : ImageParts) (streams : List (Option Stream)) : Type 0 where
  pub plain_is : plain ≡ parts_of file
  pub streams_are : streams ≡ streams_by full file
  pub few : length streams < 2 ^ 16
  pub front : front_fault full file ≡ None
