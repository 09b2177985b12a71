-- A file that is its own debug file, and its link to a supplementary file (DWARF 5, 7.3.6).
use Rattle.std.specs.Prelude.{◌≡◌, ℕ, Bool, true, List, Some, None, Ok}
use Rattle.elf_sections.specs.Image.{ImageParts}
use Rattle.debug_pair.specs.SupLink.{SupLink, sup_link}
use Rattle.dumpsyms_cmd.specs.ElfInput.{DebugFile, sup_place}

-- if links are followed, the link leads from the name of the debug file (below its root) to the
-- same place as from the name of the ELF file. A relative link counts from the folder of the file
-- that links
abbrev pub LeadsAlike : Bool → List ℕ → List ℕ → DebugFile → ImageParts → Type 0
LeadsAlike full elf path debug parts = full ≡ true → (link : SupLink) → sup_link parts ≡ Ok (Some link) → sup_place (Some debug) path link ≡ sup_place None elf link
