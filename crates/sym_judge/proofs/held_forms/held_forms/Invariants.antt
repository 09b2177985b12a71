use Rattle.sym_judge.specs.internal.HeldForms.{AreHeldForms}
use Rattle.sym_judge.proofs.held_forms.held_forms.Given as goal

abbrev pub invariant-lines : goal.invariant-lines
invariant-lines l = AreHeldForms l.lines l.forms.items
