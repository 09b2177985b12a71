use Rattle.std.proofs.Common.{◌≡◌, ◌+◌, drop}
use Rattle.std.specs.List.{position_from}
use Rattle.sym_meaning.specs.TextNames.{is_line_at}
use Rattle.sym_lookup.proofs.scans.line_from.Given as goal

abbrev pub invariant-loop-at : goal.invariant-loop-at
invariant-loop-at l = position_from (is_line_at l.address) (l.first + l.at) (drop l.at l.records) ≡ position_from (is_line_at l.address) l.first l.records
