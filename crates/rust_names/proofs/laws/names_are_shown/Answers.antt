use Rattle.rust_names.proofs.RecordLemmas.{name_for}
use Rattle.rust_names.proofs.laws.names_are_shown.Goals as goal

pub returns : goal.returns
returns c = name_for
