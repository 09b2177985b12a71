use Rattle.unit_workers.proofs.StepLemmas.{draws, splits, joins}
use Rattle.unit_workers.proofs.laws.each_step_keeps_the_rule.Goals as goal

pub returns-clause-draw : goal.returns-clause-draw
returns-clause-draw c = draws

pub returns-clause-split : goal.returns-clause-split
returns-clause-split c = splits

pub returns-clause-join : goal.returns-clause-join
returns-clause-join c = joins
