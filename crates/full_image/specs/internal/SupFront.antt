-- What is known of a supplementary file before anything is inflated.
use Rattle.std.specs.Prelude.{◌≡◌, ◌<◌, ◌^◌, ℕ, length, List, Option, None}
use Rattle.std.specs.Option.{option_or}
use Rattle.sym_edges.specs.Results.{fault_if}
use Rattle.elf_sections.specs.FileHeader.{sup_header_fault}
use Rattle.elf_sections.specs.Sections.{names_fault}
use Rattle.elf_sections.specs.Image.{ImageParts}
use Rattle.elf_sections.specs.Supplement.{sup_parts_of}
use Rattle.elf_sections.specs.declared.fault.ElfFault.{ElfFault}
use Rattle.elf_sections.specs.declared.fault.ElfFault.TheVariants.{InflatedTooLong}
use Rattle.full_image.specs.Compressed.{Stream}
use Rattle.full_image.specs.FullImage.{sections_fault, are_too_long, streams}

-- the first fault before anything is inflated
unfoldable pub sup_front_fault : List ℕ → Option ElfFault
sup_front_fault file = option_or (sup_header_fault file) (option_or (names_fault file)
    (option_or (sections_fault file) (fault_if (are_too_long (streams file)) InflatedTooLong None)))

-- what the code stores of a supplementary file that has no fault before anything is inflated
pub record IsSupFront (file : List ℕ) (plain : ImageParts) (held : List (Option Stream)) : Type 0 where
  pub plain_is : plain ≡ sup_parts_of file
  pub streams_are : held ≡ streams file
  pub few : length held < 2 ^ 16
  pub front : sup_front_fault file ≡ None
