use Rattle.func_records.proofs.NumberLemmas.{number_found, number_none}
use Rattle.func_records.proofs.numbers.number_of.Goals as goal

pub returns-in-Some : goal.returns-in-Some
returns-in-Some c = number_found c.args.sorted.now c.in-Some.place c.args.path.now c.requires.sorted c.in-Some.ensures.found

pub returns-in-None : goal.returns-in-None
returns-in-None c = number_none c.args.sorted.now c.args.path.now c.in-None.ensures.none
