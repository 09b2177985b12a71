use Rattle.std.proofs.Common.{drop, ap, ◌∙◌}
use Rattle.sym_records.proofs.ListedLemmas.{worded_body}
use Rattle.sym_records.specs.Canon.{body}
use Rattle.sym_records.specs.Records.{headed}
use Rattle.sym_records.proofs.HandingLemmas.{one_hands, one_off}
use Rattle.sym_records.proofs.line_speller.put_worded.Goals as goal

pub returns-in-Err : goal.returns-in-Err
returns-in-Err g c = one_off (_) (_) (body c.args.line.now) _ _ _ _ _ _ _ _ _ (worded_body c.args.line.now c.as_slice-fields.result.now c.fields_of-list.result _ c.requires (c.split_at.ensures.back ∙ ap (drop 1) (c.headed-words.ensures ∙ ap headed c.keyword_of.ensures)) c.fields_of-list.ensures c.as_slice-fields.ensures) c.in-Err.ensures

pub returns : goal.returns
returns g c = one_hands (_) (_) (body c.args.line.now) _ _ _ _ _ _ _ _ _ _ _ (worded_body c.args.line.now c.as_slice-fields.result.now c.fields_of-list.result _ c.requires (c.split_at.ensures.back ∙ ap (drop 1) (c.headed-words.ensures ∙ ap headed c.keyword_of.ensures)) c.fields_of-list.ensures c.as_slice-fields.ensures) c.in-Ok.ensures c.put_fields.ensures
