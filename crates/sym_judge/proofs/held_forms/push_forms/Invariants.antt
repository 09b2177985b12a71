use Rattle.std.proofs.Common.{◌≡◌, List}
use Rattle.sym_records.specs.declared.line.SymLine.{SymLine}
use Rattle.sym_judge.specs.internal.HeldForms.{AreHeldForms}
use Rattle.sym_judge.specs.internal.Tables.{rules_at}
use Rattle.sym_judge.proofs.held_forms.push_forms.Given as goal

abbrev pub invariant-rules : goal.invariant-rules
invariant-rules l = (lines : List SymLine) → rules_at lines l.line ≡ l.rules → AreHeldForms lines l.initial.forms.items → AreHeldForms lines l.forms.items
