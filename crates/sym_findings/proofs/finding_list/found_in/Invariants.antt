use Rattle.sym_findings.proofs.ListingLemmas.{Lists}
use Rattle.sym_findings.proofs.finding_list.found_in.Given as goal

abbrev pub invariant-loop-index : goal.invariant-loop-index
invariant-loop-index l = Lists l.lines l.index l.notes.list.items l.kept
