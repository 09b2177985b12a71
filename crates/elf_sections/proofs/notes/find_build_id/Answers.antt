use Rattle.std.proofs.Common.{◌∙◌, sym, ap}
use Rattle.std.specs.Option.{option_copied}
use Rattle.elf_sections.proofs.NoteLemmas.{id_here, id_later, id_end}
use Rattle.elf_sections.proofs.notes.find_build_id.Goals as goal

pub returns-in-Some-clause-first : goal.returns-in-Some-clause-first
returns-in-Some-clause-first c =
    id_here c.args.file.now c.args.sections.now c.sections.section-index _ c.in-Some.id.now c.sections-test.true
    (ap option_copied (sym c.in-Some.is) ∙ c.in_ok-id.ensures.first)
    ∙ c.sections.invariant.left

pub sections-preserved : goal.sections-preserved
sections-preserved c = record {
  left = id_later c.args.file.now c.args.sections.now c.sections.section-index _ c.sections-test.true
      (ap option_copied (sym c.in_default.is) ∙ c.in_ok-id.ensures.first)
      ∙ c.sections.invariant.left;
  gave = c.in_ok-id.ensures.walked;
}

pub returns-clause-first : goal.returns-clause-first
returns-clause-first c = id_end c.args.file.now c.args.sections.now c.sections.section-index c.sections-test.false ∙ c.sections.invariant.left
