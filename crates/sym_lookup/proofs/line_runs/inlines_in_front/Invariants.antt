use Rattle.std.proofs.Common.{◌≡◌, ℕ, ◌+◌, drop}
use Rattle.std.specs.List.{position_from}
use Rattle.sym_meaning.specs.TextNames.{is_line_at}
use Rattle.sym_lookup.proofs.line_runs.inlines_in_front.Given as goal

abbrev pub invariant-records : goal.invariant-records
invariant-records l = (first x : ℕ) → position_from (is_line_at x) (first + l.at) (drop l.at l.records) ≡ position_from (is_line_at x) first l.records
