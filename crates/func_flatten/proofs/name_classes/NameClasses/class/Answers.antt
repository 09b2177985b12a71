use Rattle.std.proofs.Common.{sym}
use Rattle.func_flatten.specs.internal.Classes.{number_name}
use Rattle.func_flatten.specs.internal.NameClasses.{class_at}
use Rattle.func_flatten.proofs.NameLemmas.{root_known, grows_root}
use Rattle.func_flatten.proofs.name_classes.NameClasses.class.Goals as goal

pub returns-in-Some-get-clause-class : goal.returns-in-Some-get-clause-class
returns-in-Some-get-clause-class c =
    let name = number_name c.args.units.now c.args.places.now in
    root_known c.args.units.now name c.args.self.now c.args.key (name c.args.number) c.in-Some.root.unit c.in-Some.root.entry c.place_of.result c.in-Some-get.class.now c.requires.held c.requires.key (sym c.in-Some.is) c.place_of.ensures.fits.0 c.place_of.ensures.fits.1 c.place_of.ensures.place c.in-Some-get.ensures.value

pub returns-clause-grows : goal.returns-clause-grows
returns-clause-grows c =
    let name = number_name c.args.units.now c.args.places.now in
    grows_root c.args.units.now name c.args.self.now c.hash_class-2.new.self c.insert.new.self c.args.key (name c.args.number) c.in-Some.root.unit c.in-Some.root.entry c.place_of-2.result c.in_ok-class.class c.in_ok-class.ensures.grows c.requires.key (sym c.in-Some.is) c.place_of-2.ensures.fits.1 c.place_of-2.ensures.place c.in_ok-class.ensures.class c.in_ok-insert.ensures.updates

pub returns-clause-class : goal.returns-clause-class
unfolding class_at
returns-clause-class c = c.in_ok-class.ensures.class
