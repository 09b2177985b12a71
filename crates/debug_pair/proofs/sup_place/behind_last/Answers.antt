use Rattle.debug_pair.proofs.PlaceLemmas.{none_behind, some_behind}
use Rattle.debug_pair.proofs.sup_place.behind_last.Goals as goal

pub returns-in-None : goal.returns-in-None
returns-in-None c = none_behind c.args.part.now c.args.text.now c.in-None.ensures.cases

pub returns-in-Some : goal.returns-in-Some
returns-in-Some c = some_behind c.args.part.now c.args.text.now _ c.in-Some.rest.now c.requires c.in-Some.ensures.cases
