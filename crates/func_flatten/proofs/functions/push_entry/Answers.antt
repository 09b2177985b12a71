use Rattle.std.proofs.Common.{sym, ap, ◌∙◌}
use Rattle.die_walk.specs.EntryKinds.{is_function}
use Rattle.func_flatten.proofs.CollectLemmas.{entry_without, entry_empty, entry_other, no_length, one_die}
use Rattle.func_flatten.proofs.functions.push_entry.Goals as goal

pub returns-in_default-clause-all : goal.returns-in_default-clause-all
returns-in_default-clause-all c left die is all = entry_without _ _ _ c.args.place die c.args.part.now.spans left c.in_default.ensures.set all

pub returns-then-is_empty-clause-all : goal.returns-then-is_empty-clause-all
returns-then-is_empty-clause-all c left die is all = entry_empty _ _ _ c.args.place die c.args.part.now.spans c.in-Some.spans.now left c.in-Some.ensures.set (no_length c.in-Some.spans.now c.if-is_empty.ensures) all

pub returns-then-not-is_function-clause-all : goal.returns-then-not-is_function-clause-all
returns-then-not-is_function-clause-all c left die is all =
    entry_other _ _ _ c.args.place die c.args.part.now.spans c.in-Some.spans.now left c.in-Some.ensures.set
    (ap is_function (one_die c.args.part.now.die.dies c.args.place.entry die c.in-Some-entry.die is c.in-Some-entry.ensures) ∙ sym c.if-not-is_function.ensures) all
