use Rattle.std.proofs.Common.{length}
use Rattle.die_names.proofs.entry_search.+find_among.Given as goal

abbrev pub decreases-find_among : goal.decreases-find_among
decreases-find_among l = length l.units.now
