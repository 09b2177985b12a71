use Rattle.std.proofs.Common.{length}
use Rattle.rule_postfix.proofs.StepsLemmas.{Passing}
use Rattle.rule_postfix.proofs.open_init.spell_steps.Given as goal

abbrev pub invariant-rows : goal.invariant-rows
invariant-rows l = Passing l.fde l.base l.end l.fn.text.items l.text.items l.open l.before l.lacking l.stepper l.fn.stepper

abbrev pub decreases-rows : goal.decreases-rows
decreases-rows l = length l.stepper.later
