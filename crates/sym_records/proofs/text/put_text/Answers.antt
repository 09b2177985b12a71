use Rattle.std.proofs.Common.{ap, ◌∙◌, ◌++◌}
use Rattle.std.specs.List.{flat_map}
use Rattle.sym_records.proofs.HandingLemmas.{one_hands, one_off}
use Rattle.sym_records.specs.Spelled.{text_bytes}
use Rattle.sym_records.proofs.text.put_text.Goals as goal

pub returns-in-Err : goal.returns-in-Err
returns-in-Err g c = one_off (flat_map (λ piece. piece) c.as_slice.result.now) c.args.text.now.last.items (text_bytes c.args.text.now) _ _ _ _ _ _ _ _ _ (ap (λ l. flat_map (λ piece. piece) l ++ c.args.text.now.last.items) c.as_slice.ensures.value) c.in-Err.ensures

pub returns : goal.returns
returns g c = one_hands (flat_map (λ piece. piece) c.as_slice.result.now) c.as_slice-2.result.now (text_bytes c.args.text.now) _ _ _ _ _ _ _ _ _ _ _
    (ap (λ l. flat_map (λ piece. piece) l ++ c.as_slice-2.result.now) c.as_slice.ensures.value ∙ ap (λ l. flat_map (λ piece. piece) c.args.text.now.full.items ++ l) c.as_slice-2.ensures.value) c.in-Ok.ensures c.put.ensures
