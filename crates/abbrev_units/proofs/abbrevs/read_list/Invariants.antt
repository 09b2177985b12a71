use Rattle.std.proofs.Common.{length}
use Rattle.abbrev_units.specs.Abbreviations.{used_at}
use Rattle.abbrev_units.proofs.ListedLemmas.{Reads}
use Rattle.abbrev_units.proofs.abbrevs.read_list.Given as goal

abbrev pub invariant-abbrevs : goal.invariant-abbrevs
invariant-abbrevs l = Reads l.forms l.lists l.heads.items l.cursor (used_at l.forms l.initial.cursor)

abbrev pub decreases-abbrevs : goal.decreases-abbrevs
decreases-abbrevs l = length l.cursor.bytes
