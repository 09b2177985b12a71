use Rattle.std.proofs.Common.{◌≡◌, ◌-◌}
use Rattle.leb_cursor.proofs.ListLemmas.{behind}
use Rattle.line_program.specs.FileTables.{entry_at}
use Rattle.line_program.specs.Lists.{several_at}
use Rattle.line_program.proofs.tables.read_counted.Given as goal

abbrev pub invariant-entries : goal.invariant-entries
invariant-entries l =
    behind l.entries.items (several_at (entry_at l.source.sections.now l.pairs l.source.wide) (l.count - l.turn) l.cursor) ≡ several_at (entry_at l.source.sections.now l.pairs l.source.wide) l.count l.initial.cursor
