use Rattle.std.proofs.Common.{◌∙◌, ap}
use Rattle.dumpsyms_cmd.specs.Refusals.{unread_lines}
use Rattle.dumpsyms_cmd.specs.Words.{source_view}
use Rattle.dumpsyms_cmd.proofs.SourceLemmas.{file_read, file_named, file_stopped, file_not_read}
use Rattle.dumpsyms_cmd.proofs.elf_input.answer_file.Goals as goal

pub returns-in-Ok-read_all-clause-asked : goal.returns-in-Ok-read_all-clause-asked
returns-in-Ok-read_all-clause-asked g c =
    file_named _ (source_view c.args.source.now) c.args.binary.now c.args.path.now _ _ _ _ _ _ c.in-Ok-read_all.ensures.read c.as_slice.ensures c.in-Ok-read_all.ensures.asked c.answer_debug.ensures.asked

pub returns-in-Ok-read_all-clause-answered : goal.returns-in-Ok-read_all-clause-answered
returns-in-Ok-read_all-clause-answered g c =
    file_read _ (source_view c.args.source.now) c.args.binary.now c.args.path.now _ _ _ _ _ _ _ _ c.in-Ok-read_all.ensures.read c.as_slice.ensures c.in-Ok-read_all.ensures.files c.in-Ok-read_all.ensures.faults c.answer_debug.ensures.faults c.answer_debug.ensures.answered

pub returns-in-Err-clause-asked : goal.returns-in-Err-clause-asked
returns-in-Err-clause-asked g c =
    file_not_read _ _ _ (source_view c.args.source.now) c.args.binary.now c.args.path.now _ _ _ _ _ _ _ c.in-Err.ensures.read c.in-Err.ensures.asked c.answer_stop.ensures

pub returns-in-Err-clause-answered : goal.returns-in-Err-clause-answered
returns-in-Err-clause-answered g c =
    file_stopped _ _ (source_view c.args.source.now) c.args.binary.now c.args.path.now _ _ _ _ _ _ _ _ c.in-Err.ensures.read c.in-Err.ensures.asked
    (c.in-Ok.ensures ∙ ap (unread_lines c.args.source.now.full) c.as_bytes.ensures.value) c.answer_stop.ensures
