-- What a proof unfolds to compute the definitions of this crate where the input is written out.
use Rattle.std.specs.Prelude.{⊤}
use Rattle.sym_findings.specs.Findings.{findings_at, findings_from, findings}

unfoldable pub sym_findings_computes : ⊤
unfolding findings_at findings_from findings
sym_findings_computes = tt
