use Rattle.sym_findings.proofs.LawLemmas.{nothing_in, none_found}
use Rattle.sym_findings.proofs.laws.nothing_found.Goals as goal

pub returns : goal.returns
returns c = λ lines. (nothing_in lines, none_found lines)
