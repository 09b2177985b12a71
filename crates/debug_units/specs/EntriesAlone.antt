-- Units with only their entries, without addresses and lines; the names of entries need no more.
use Rattle.std.specs.Prelude.{[]}
use Rattle.line_program.specs.LineMaps.{no_lines}
use Rattle.die_walk.specs.EntryTable.{EntryTable}
use Rattle.debug_units.specs.declared.unit_read.UnitRead.{UnitRead}

-- a unit with the entries of a table and nothing else
abbrev pub with_entries : EntryTable → UnitRead
with_entries table = record { die = table; spans = []; lines = no_lines }

abbrev pub entries_alone : UnitRead → UnitRead
entries_alone part = with_entries part.die
