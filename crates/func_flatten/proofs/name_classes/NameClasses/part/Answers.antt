use Rattle.std.proofs.Common.{ap, ◌∙◌}
use Rattle.func_flatten.specs.internal.Classes.{place_name, number_name}
use Rattle.func_flatten.proofs.NameLemmas.{grows_parted, now_first}
use Rattle.func_flatten.proofs.name_classes.NameClasses.part.Goals as goal

pub returns-clause-grows : goal.returns-clause-grows
returns-clause-grows c =
    grows_parted c.args.units.now (number_name c.args.units.now c.args.places.now) c.args.self.now c.insert-2.new.self c.insert.new.self c.in_ok-text.text c.args.hash c.args.one c.requires.held c.requires.known c.requires.alone
    (c.in_ok-text.ensures ∙ ap (place_name c.args.units.now) c.place_at.ensures) c.in_ok-insert.ensures.entries c.in_ok-insert-2.ensures.updates

pub returns-clause-parted : goal.returns-clause-parted
returns-clause-parted c = now_first c.args.self.now.firsts c.insert-2.new.self c.args.hash _ c.in_ok-insert-2.ensures.updates
