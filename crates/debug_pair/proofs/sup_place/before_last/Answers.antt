use Rattle.debug_pair.proofs.PlaceLemmas.{none_before, some_before}
use Rattle.debug_pair.proofs.sup_place.before_last.Goals as goal

pub returns-in-None : goal.returns-in-None
returns-in-None c = none_before c.args.part.now c.args.text.now c.in-None.ensures.cases

pub returns-in-Some : goal.returns-in-Some
returns-in-Some c = some_before c.args.part.now c.args.text.now c.in-Some.front.now _ c.requires c.in-Some.ensures.cases
