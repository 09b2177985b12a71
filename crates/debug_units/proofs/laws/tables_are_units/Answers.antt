use Rattle.debug_units.proofs.ReadLemmas.{are_read}
use Rattle.debug_units.proofs.laws.tables_are_units.Goals as goal

pub returns : goal.returns
returns c = are_read
