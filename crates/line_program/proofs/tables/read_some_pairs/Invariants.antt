use Rattle.std.proofs.Common.{◌≡◌, ◌-◌}
use Rattle.leb_cursor.proofs.ListLemmas.{behind}
use Rattle.line_program.specs.FileTables.{pair_at}
use Rattle.line_program.specs.Lists.{several_at}
use Rattle.line_program.proofs.tables.read_some_pairs.Given as goal

abbrev pub invariant-pairs : goal.invariant-pairs
invariant-pairs l = behind l.pairs.items (several_at pair_at (l.count - l.turn) l.cursor) ≡ several_at pair_at l.count l.initial.cursor
