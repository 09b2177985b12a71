use Rattle.std.proofs.Common.{◌++◌, ◌∙◌, ap}
use Rattle.std.specs.List.{flat_map}
use Rattle.sym_records.specs.Fields.{hex}
use Rattle.sym_records.specs.Listed.{said, spelled_field}
use Rattle.sym_records.proofs.HandingLemmas.{one_hands, one_off}
use Rattle.sym_records.proofs.line_speller.put_numbered.Goals as goal

pub returns-in-Err : goal.returns-in-Err
returns-in-Err g c = one_off (_) (_) (hex c.args.number ++ flat_map (λ f. spelled_field (said f)) c.args.fields.now) _ _ _ _ _ _ _ _ _ (ap (λ l. l ++ flat_map (λ f. spelled_field (said f)) c.args.fields.now) (c.as_slice.ensures ∙ c.of-start.ensures)) c.in-Err.ensures

pub returns : goal.returns
returns g c = one_hands (_) (_) (hex c.args.number ++ flat_map (λ f. spelled_field (said f)) c.args.fields.now) _ _ _ _ _ _ _ _ _ _ _ (ap (λ l. l ++ flat_map (λ f. spelled_field (said f)) c.args.fields.now) (c.as_slice.ensures ∙ c.of-start.ensures)) c.in-Ok.ensures c.put_fields.ensures
