use Rattle.dumpsyms_cmd.proofs.SplitLemmas.{held_same}
use Rattle.dumpsyms_cmd.proofs.split_units.is_held.Goals as goal

pub returns-in-Some : goal.returns-in-Some
returns-in-Some c = λ abbrevs holds is. let same = c.is_same_table.ensures is in held_same c.args.sections.now c.args.held c.in-Some.one c.args.unit.now abbrevs c.in-Some.is holds same.0 same.1 same.2
