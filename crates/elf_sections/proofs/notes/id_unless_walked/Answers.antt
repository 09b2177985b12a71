use Rattle.elf_sections.proofs.WalkedLemmas.{no_notes, gave_none_more}
use Rattle.elf_sections.proofs.notes.id_unless_walked.Goals as goal

pub returns-then-section-ne-SHT_NOTE-clause-first : goal.returns-then-section-ne-SHT_NOTE-clause-first
returns-then-section-ne-SHT_NOTE-clause-first c = no_notes c.args.file.now c.args.section.now c.if-section-ne-SHT_NOTE.true

pub returns-in_ok-insert-in-None-clause-walked : goal.returns-in_ok-insert-in-None-clause-walked
returns-in_ok-insert-in-None-clause-walked c =
    gave_none_more c.args.file.now c.args.walked.now c.insert.new.self c.args.section.now c.requires
    c.if-section-ne-SHT_NOTE.false c.in-None.ensures.first c.in_ok-insert-in-None.ensures.updates
