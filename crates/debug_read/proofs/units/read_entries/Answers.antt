use Rattle.std.proofs.Common.{ap, ◌∙◌}
use Rattle.debug_read.specs.UnitsRead.{has_function}
use Rattle.debug_read.proofs.UnitLemmas.{few_dies, unit_held}
use Rattle.debug_read.proofs.units.read_entries.Goals as goal

pub read_pairs-requires : goal.read_pairs-requires
read_pairs-requires c = few_dies c.args.sections.now c.args.unit.now c.args.abbrevs.now c.in-Ok.die c.requires.inside.ordered c.requires.inside.inside c.requires.small c.in-Ok.ensures

pub returns : goal.returns
returns c = λ spans same.
    unit_held c.args.sections.now c.args.unit.now c.args.code.now spans c.args.abbrevs.now c.in-Ok.die c.in-Ok-read_pairs.spans c.has_function-function.result
    c.requires.abbrevs c.in-Ok.ensures (c.code_by_what_it_encloses.ensures c.args.code.now spans same) c.in-Ok-read_pairs.ensures (c.has_function-function.ensures ∙ ap has_function c.dies.ensures)
