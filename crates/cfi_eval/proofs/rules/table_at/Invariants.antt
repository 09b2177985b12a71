use Rattle.cfi_eval.proofs.TableLemmas.{Leads}
use Rattle.cfi_eval.proofs.rules.table_at.Given as goal

abbrev pub invariant-lines : goal.invariant-lines
invariant-lines l = Leads l.first l.address l.behind l.line-index l.table
