use Rattle.std.proofs.Common.{ap, ◌∙◌}
use Rattle.std.specs.List.{slice_get}
use Rattle.die_walk.specs.Scopes.{scope_of}
use Rattle.die_names.proofs.TextLemmas.{slice_bare, slice_linkage}
use Rattle.die_names.proofs.joined_name.name_slice.Goals as goal

pub returns-in-Linkage : goal.returns-in-Linkage
returns-in-Linkage c =
    slice_linkage c.args.units.now c.args.name c.in-Some.part.now c.in-Some-entry_in.die _ c.in-Linkage.is c.in-Some.ensures (c.in-Some-entry_in.ensures ∙ ap (λ ds. slice_get ds c.args.name.entry) c.dies-dies.ensures) c.linkage.ensures

pub returns-in-None : goal.returns-in-None
returns-in-None c =
    slice_bare c.args.units.now c.args.name c.in-Some.part.now c.in-Some-entry_in.die _ c.in-Joined.is c.in-Some.ensures (c.in-Some-entry_in.ensures ∙ ap (λ ds. slice_get ds c.args.name.entry) c.dies-dies.ensures)
    (c.in-None.ensures ∙ ap (λ ds. scope_of ds c.args.name.entry) c.dies-dies.ensures) c.name.ensures
