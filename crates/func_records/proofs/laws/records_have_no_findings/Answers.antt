use Rattle.func_records.proofs.FindingLemmas.{none_found}
use Rattle.func_records.proofs.laws.records_have_no_findings.Goals as goal

pub returns : goal.returns
returns c = none_found
