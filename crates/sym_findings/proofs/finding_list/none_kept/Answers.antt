use Rattle.sym_findings.proofs.JudgedLemmas.{none_kept}
use Rattle.sym_findings.proofs.finding_list.none_kept.Goals as goal

pub returns : goal.returns
returns c = none_kept c.new.result c.new-2.result c.new-3.result c.new-4.result c.new-5.result c.new.ensures c.new-2.ensures c.new-3.ensures c.new-5.ensures
