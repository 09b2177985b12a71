use Rattle.std.proofs.Common.{◌≡◌, ◌+◌, drop}
use Rattle.std.specs.List.{position_from}
use Rattle.sym_meaning.specs.TextNames.{is_inline_at}
use Rattle.sym_lookup.proofs.scans.inline_from.Given as goal

abbrev pub invariant-loop-at : goal.invariant-loop-at
invariant-loop-at l = position_from (is_inline_at l.level l.address) (l.first + l.at) (drop l.at l.records) ≡ position_from (is_inline_at l.level l.address) l.first l.records
