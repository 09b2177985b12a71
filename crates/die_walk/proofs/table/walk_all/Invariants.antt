use Rattle.std.proofs.Common.{◌≡◌, length}
use Rattle.die_walk.specs.EntryTable.{entry_table}
use Rattle.die_walk.specs.Steps.{walked_from, IsShort}
use Rattle.abbrev_units.specs.Picks.{no_picks}
use Rattle.die_walk.proofs.table.walk_all.Given as goal

abbrev pub invariant-entries : goal.invariant-entries
invariant-entries l = record {
  rest : walked_from l.initial.walker.own.sections l.initial.walker.own.unit l.abbrevs l.walker l.cursor ≡ entry_table l.initial.walker.own.sections l.initial.walker.own.unit l.abbrevs;
  short : IsShort (length l.walker.dies) l.cursor;
  own : l.walker.own ≡ l.initial.walker.own;
  picks : l.picks ≡ no_picks;
}

abbrev pub decreases-entries : goal.decreases-entries
decreases-entries l = length l.cursor.bytes
