use Rattle.rule_postfix.proofs.DecidedLemmas.{shows_none}
use Rattle.rule_postfix.proofs.progress.Progress.new.Goals as goal

pub returns : goal.returns
returns c = λ base. shows_none base _ c.new.ensures c.new-3.ensures.items c.new-4.ensures
