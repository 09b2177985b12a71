use Rattle.sym_records.proofs.RecordSoundLemmas.{valid_iff}
use Rattle.sym_records.proofs.validity.is_valid.Goals as goal

pub returns-clause-valid : goal.returns-clause-valid
returns-clause-valid c = valid_iff c.args.line.now c.fields_fit.result c.fields_fit.ensures
