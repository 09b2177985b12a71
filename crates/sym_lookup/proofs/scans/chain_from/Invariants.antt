use Rattle.std.proofs.Common.{◌≡◌, ◌-◌, ◌++◌}
use Rattle.sym_meaning.specs.TextNames.{level_count}
use Rattle.sym_lookup.specs.Answers.{chain_from}
use Rattle.sym_lookup.proofs.scans.chain_from.Given as goal

abbrev pub invariant-levels : goal.invariant-levels
invariant-levels l = l.chain.items ++ chain_from l.first l.address l.level (l.count - l.level) l.records ≡ chain_from l.first l.address 0 (level_count l.records) l.records
