-- The image of a supplementary file, whose sections of debugging information may be compressed (DWARF 5, 7.3.6).
use Rattle.std.specs.Prelude.{ℕ, List, Option, None, Result, map}
use Rattle.std.specs.Option.{option_or}
use Rattle.sym_edges.specs.Results.{fault_if}
use Rattle.elf_sections.specs.FileHeader.{sup_header_fault}
use Rattle.elf_sections.specs.Sections.{names_fault}
use Rattle.elf_sections.specs.Image.{ImageParts, image_by, with_sections}
use Rattle.elf_sections.specs.Supplement.{sup_parts_of}
use Rattle.elf_sections.specs.declared.fault.ElfFault.{ElfFault}
use Rattle.elf_sections.specs.declared.fault.ElfFault.TheVariants.{InflatedTooLong}
use Rattle.full_image.specs.FullImage.{sections_fault, streams, are_too_long, outcome_of, inflate_fault, full_sections}

-- the first fault of these: one of the header, for a file of any type; of the names; of the
-- sections; that all data inflates to too many bytes; that the data of a section is bad. A
-- supplementary file needs neither segments nor symbols nor code
unfoldable pub sup_fault : List ℕ → Option ElfFault
sup_fault file = option_or (sup_header_fault file) (option_or (names_fault file) (option_or (sections_fault file)
    (option_or (fault_if (are_too_long (streams file)) InflatedTooLong None) (inflate_fault (map outcome_of (streams file))))))

-- the image of a supplementary file: its first fault, or its parts
unfoldable pub sup_image : List ℕ → Result ImageParts ElfFault
sup_image file = image_by (sup_fault file) (with_sections (full_sections file) (sup_parts_of file))
