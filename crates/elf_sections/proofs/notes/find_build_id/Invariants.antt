use Rattle.std.proofs.Common.{◌≡◌, drop}
use Rattle.std.specs.List.{flat_map}
use Rattle.elf_sections.specs.Notes.{first_id, notes_of}
use Rattle.elf_sections.specs.Kept.{GaveNone}
use Rattle.elf_sections.proofs.notes.find_build_id.Given as goal

abbrev pub invariant-sections : goal.invariant-sections
invariant-sections l = record {
  left : first_id (flat_map (notes_of l.file) (drop l.section-index l.sections)) ≡ first_id (flat_map (notes_of l.file) l.sections);
  gave : GaveNone l.file l.walked;
}
