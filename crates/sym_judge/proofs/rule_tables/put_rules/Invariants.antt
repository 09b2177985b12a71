use Rattle.std.proofs.Common.{◌≡◌, ◌++◌, List, take}
use Rattle.sym_records.specs.declared.line.SymLine.{SymLine}
use Rattle.sym_rules.specs.declared.rules.RuleText.{RuleText}
use Rattle.sym_judge.specs.internal.Tables.{rules_at, IsTable}
use Rattle.sym_judge.proofs.rule_tables.put_rules.Given as goal

abbrev pub invariant-rules : goal.invariant-rules
invariant-rules l = (lines : List SymLine) (before : List RuleText) → rules_at lines l.line ≡ l.rules → IsTable lines before l.initial.table → IsTable lines (before ++ take l.rule l.rules) l.table
