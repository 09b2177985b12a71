use Rattle.std.proofs.Common.{◌≡◌, length}
use Rattle.leb_cursor.specs.Lists.{list_at}
use Rattle.leb_cursor.proofs.ListLemmas.{behind}
use Rattle.line_program.specs.FileTables.{old_entry_at}
use Rattle.line_program.proofs.tables.read_old_entries.Given as goal

abbrev pub invariant-entries : goal.invariant-entries
invariant-entries l = behind l.entries.items (list_at (old_entry_at l.of_files) l.cursor) ≡ list_at (old_entry_at l.of_files) l.initial.cursor

abbrev pub decreases-entries : goal.decreases-entries
decreases-entries l = length l.cursor.bytes
