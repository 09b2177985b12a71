use Rattle.std.proofs.Common.{◌∙◌, ap}
use Rattle.dumpsyms_cmd.specs.Refusals.{unread_lines}
use Rattle.dumpsyms_cmd.specs.Words.{source_view}
use Rattle.dumpsyms_cmd.proofs.SourceLemmas.{elf_read, elf_asked, elf_stopped, elf_not_read}
use Rattle.dumpsyms_cmd.proofs.elf_input.answer_source.Goals as goal

pub returns-in-Ok-read_all-clause-asked : goal.returns-in-Ok-read_all-clause-asked
returns-in-Ok-read_all-clause-asked g c = elf_asked _ (source_view c.args.source.now) _ _ _ _ _ _ _ c.in-Ok-read_all.ensures.read c.as_slice.ensures c.in-Ok-read_all.ensures.files c.in-Ok-read_all.ensures.asked c.answer_bytes.ensures.asked

pub returns-in-Ok-read_all-clause-answered : goal.returns-in-Ok-read_all-clause-answered
returns-in-Ok-read_all-clause-answered g c =
    elf_read _ (source_view c.args.source.now) _ _ _ _ _ _ _ _ c.in-Ok-read_all.ensures.read c.as_slice.ensures c.in-Ok-read_all.ensures.files c.in-Ok-read_all.ensures.faults c.answer_bytes.ensures.faults c.answer_bytes.ensures.answered

pub returns-in-Err-clause-asked : goal.returns-in-Err-clause-asked
returns-in-Err-clause-asked g c = elf_not_read _ _ _ (source_view c.args.source.now) _ _ _ c.in-Err.ensures.asked c.answer_stop.ensures

pub returns-in-Err-clause-answered : goal.returns-in-Err-clause-answered
returns-in-Err-clause-answered g c =
    elf_stopped _ _ (source_view c.args.source.now) _ _ _ _ _ _ _ _ c.in-Err.ensures.read c.in-Err.ensures.asked
    (c.in-Ok.ensures ∙ ap (unread_lines c.args.source.now.full) c.as_bytes.ensures.value) c.answer_stop.ensures
