use Rattle.sym_judge.specs.internal.Tables.{IsTableUpTo}
use Rattle.sym_judge.proofs.rule_tables.table_at.Given as goal

abbrev pub invariant-lines : goal.invariant-lines
invariant-lines l = IsTableUpTo l.lines l.address l.place l.table
