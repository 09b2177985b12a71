use Rattle.std.proofs.Common.{◌∙◌, sym, ap, get_or}
use Rattle.std.specs.List.{position}
use Rattle.elf_sections.specs.Sections.{sections}
use Rattle.elf_sections.specs.declared.section.SectionHeader.{SectionHeader}
use Rattle.full_image.specs.Compressed.{is_called}
use Rattle.full_image.proofs.PartLemmas.{part_there}
use Rattle.full_image.proofs.packed.full_part.Goals as goal

nothing : SectionHeader
nothing = record { name = 0; kind = 0; flags = 0; address = 0; offset = 0; size = 0; link = 0 }

pub returns-in-Some : goal.returns-in-Some
unfolding nothing
returns-in-Some c = sym (part_there c.args.tables.now c.args.which c.args.inflated.now c.in-Some.index (get_or c.sections-in-Some.result.now c.in-Some.index nothing) nothing c.bytes_at.result.now c.requires
    (ap (λ t. position (is_called t c.args.which) (sections c.args.tables.now)) (sym c.names.ensures) ∙ ap (position (is_called c.names.result.now c.args.which)) (sym c.sections.ensures.headers) ∙ sym c.find_called.ensures ∙ c.in-Some.is)
    (ap (λ l. get_or l c.in-Some.index nothing) c.sections-in-Some.ensures.headers) c.bytes_at.ensures)
