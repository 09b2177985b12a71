use Rattle.std.proofs.Common.{ap, ◌∙◌, ◌+◌, nat_le}
use Rattle.sym_records.proofs.LengthLemmas.{short}
use Rattle.sym_records.specs.Records.{headed}
use Rattle.sym_records.proofs.lengths.is_short.Goals as goal

pub returns : goal.returns
returns c =
    ap (λ n. nat_le n (c.args.limit + 1)) c.saturating_add-whole.ensures
    ∙ short c.args.line.now _ _ c.headed-words.result.now c.fields_length.result c.args.limit c.requires c.fields_of-list.ensures c.as_slice.ensures
    (c.headed-words.ensures ∙ ap headed c.keyword_of.ensures) c.fields_length.ensures
