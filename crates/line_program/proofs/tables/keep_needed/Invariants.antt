use Rattle.std.proofs.Common.{◌≡◌, ◌++◌, false, drop}
use Rattle.line_program.specs.internal.Needed.{needed}
use Rattle.line_program.proofs.tables.keep_needed.Given as goal

abbrev pub invariant-pairs : goal.invariant-pairs
invariant-pairs l = l.kept.items ++ needed l.path l.directory (drop l.place l.pairs) ≡ needed false false l.pairs
