use Rattle.std.proofs.Common.{sym, ap, ◌∙◌, arith}
use Rattle.sym_judge.specs.internal.Tables.{rules_or}
use Rattle.sym_judge.proofs.TableLemmas.{record_there}
use Rattle.sym_judge.proofs.held_forms.held_forms.Goals as goal

pub lines-preserved : goal.lines-preserved
lines-preserved c = c.in_ok-push_forms.ensures c.args.lines.now (ap rules_or (record_there c.args.lines.now c.lines.line c.index-lines-line.result (omega arith) c.index-lines-line.is) ∙ sym c.rules_of.ensures) c.lines.invariant
