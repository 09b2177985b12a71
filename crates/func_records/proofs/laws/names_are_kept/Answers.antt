use Rattle.func_records.proofs.NameLemmas.{all_named}
use Rattle.func_records.proofs.laws.names_are_kept.Goals as goal

pub returns : goal.returns
returns c = all_named
