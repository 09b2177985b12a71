use Rattle.std.proofs.Common.{◌∙◌, ap}
use Rattle.dumpsyms_cmd.specs.Refusals.{unread_lines}
use Rattle.dumpsyms_cmd.specs.Words.{source_view}
use Rattle.dumpsyms_cmd.proofs.SupLemmas.{sup_stopped}
use Rattle.dumpsyms_cmd.proofs.sup_input.answer_sup_file.Goals as goal

pub returns-in-Err-clause-answered : goal.returns-in-Err-clause-answered
returns-in-Err-clause-answered g c =
    sup_stopped _ _ (source_view c.args.source.now) _ _ c.args.path.now _ _ _ _ _ _ _ _ c.in-Err.ensures.read c.in-Err.ensures.asked
    (c.in-Ok.ensures ∙ ap (unread_lines c.args.source.now.full) c.as_bytes.ensures.value) c.answer_stop.ensures
