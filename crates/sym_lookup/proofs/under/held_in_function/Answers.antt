use Rattle.sym_lookup.proofs.under.held_in_function.Goals as goal

pub in_under-requires : goal.in_under-requires
in_under-requires c = c.in-Some.ensures.under c.args.lines.now c.requires.unders
