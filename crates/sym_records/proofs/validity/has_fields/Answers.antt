use Rattle.std.proofs.Common.{◌∙◌}
use Rattle.sym_records.proofs.ListedLemmas.{fit_test}
use Rattle.sym_records.proofs.validity.has_fields.Goals as goal

pub returns : goal.returns
returns c = c.fit.ensures ∙ fit_test c.args.line.now _ _ c.fields_of-list.ensures c.as_slice.ensures
