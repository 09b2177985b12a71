use Rattle.rule_postfix.proofs.CfaLemmas.{written_known}
use Rattle.rule_postfix.proofs.laws.written_entries_have_a_cfa.Goals as goal

pub returns : goal.returns
returns c = written_known
