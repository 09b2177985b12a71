use Rattle.std.proofs.Common.{◌≡◌, drop}
use Rattle.line_program.specs.FileTables.{values_at, entry_at}
use Rattle.line_program.proofs.EntryLemmas.{entry_from}
use Rattle.line_program.proofs.entries.read_entry.Given as goal

abbrev pub invariant-pairs : goal.invariant-pairs
invariant-pairs l =
    entry_from l.sections l.path l.directory (values_at (drop l.pair-index l.pairs) l.wide l.cursor) ≡ entry_at l.sections l.pairs l.wide l.initial.cursor
