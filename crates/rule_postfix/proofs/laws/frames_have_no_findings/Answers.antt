use Rattle.rule_postfix.proofs.SayingLemmas.{written_once}
use Rattle.rule_postfix.proofs.laws.frames_have_no_findings.Goals as goal

pub returns-clause-apart : goal.returns-clause-apart
returns-clause-apart c = written_once
