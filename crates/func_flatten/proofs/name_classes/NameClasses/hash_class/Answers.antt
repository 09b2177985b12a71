use Rattle.std.proofs.Common.{◌≡◌, true, Some, refl, sym, ap, ◌∙◌}
use Rattle.std.specs.BTreeMap.{get}
use Rattle.std.specs.Ordering.{nat_cmp}
use Rattle.std.specs.Str.{bytes_eq}
use Rattle.func_flatten.specs.internal.Classes.{number_name}
use Rattle.func_flatten.proofs.NameLemmas.{grows_first, grows_again, grows_rare, grows_twice, class_alone, class_again, class_differs}
use Rattle.func_flatten.proofs.name_classes.NameClasses.hash_class.Goals as goal

pub returns-in_default-clause-grows : goal.returns-in_default-clause-grows
returns-in_default-clause-grows c = grows_first c.args.units.now (number_name c.args.units.now c.args.places.now) c.args.self.now c.insert.new.self c.args.number c.args.hash c.alone.result c.requires.held c.requires.hash c.in_default.ensures c.alone.ensures c.in_ok-insert.ensures.updates

pub returns-in_default-clause-class : goal.returns-in_default-clause-class
returns-in_default-clause-class c =
    let name = number_name c.args.units.now c.args.places.now in
    class_alone name c.args.self.now _ c.args.number c.args.hash c.alone.result c.requires.hash c.in_ok-insert.ensures.updates (ap (λ b. b.differ) c.alone.ensures) (ap (λ b. name b.first) c.alone.ensures) ∙ ap (λ b. Some b.first) c.alone.ensures

pub returns-then-one-clause-grows : goal.returns-then-one-clause-grows
returns-then-one-clause-grows c =
    grows_rare c.args.units.now (number_name c.args.units.now c.args.places.now) c.args.self.now c.rare_class.new.self c.requires.held c.in_ok-class.ensures.firsts c.in_ok-class.ensures.roots c.in_ok-class.ensures.stays (c.in_ok-class.ensures.numbers c.requires.held.numbers)

pub returns-then-one-clause-class : goal.returns-then-one-clause-class
returns-then-one-clause-class c =
    let name = number_name c.args.units.now c.args.places.now in
    class_differs name c.rare_class.new.self (name c.args.number) c.args.hash c.in-Some.one c.requires.hash (ap (λ m. get nat_cmp m c.args.hash) c.in_ok-class.ensures.firsts ∙ sym c.in-Some.ensures) c.if-one.true ∙ c.in_ok-class.ensures.class

pub returns-then-branch-clause-grows : goal.returns-then-branch-clause-grows
returns-then-branch-clause-grows c =
    let name = number_name c.args.units.now c.args.places.now in
    let same : bytes_eq (name c.args.number) (name c.in-Some.one.last) ≡ true = rw (c.place_at-place.ensures, c.place_at.ensures) at (sym c.in_ok-have_one_name.ensures ∙ c.if-branch.true) in
    grows_again c.args.units.now name c.args.self.now c.insert-then-branch.new.self c.args.number c.args.hash c.in-Some.one c.alone-then-branch.result c.requires.held c.in-Some.ensures c.if-one.false same c.alone-then-branch.ensures c.in_ok-insert-2.ensures.updates

pub returns-then-branch-clause-class : goal.returns-then-branch-clause-class
returns-then-branch-clause-class c =
    let name = number_name c.args.units.now c.args.places.now in
    let same : bytes_eq (name c.args.number) (name c.in-Some.one.last) ≡ true = rw (c.place_at-place.ensures, c.place_at.ensures) at (sym c.in_ok-have_one_name.ensures ∙ c.if-branch.true) in
    class_again c.args.units.now name c.args.self.now _ c.args.number c.args.hash c.in-Some.one c.alone-then-branch.result c.requires.held c.requires.hash c.in-Some.ensures same c.alone-then-branch.ensures c.in_ok-insert-2.ensures.updates

pub returns-clause-grows : goal.returns-clause-grows
returns-clause-grows c =
    let name = number_name c.args.units.now c.args.places.now in
    let parted = c.in_ok-part.ensures.grows in
    let rare = c.in_ok-class-2.ensures in
    grows_twice c.args.units.now name c.args.self.now c.part.new.self c.rare_class-2.new.self parted
    (grows_rare c.args.units.now name c.part.new.self c.rare_class-2.new.self parted.held rare.firsts rare.roots rare.stays (rare.numbers parted.held.numbers))

pub returns-clause-class : goal.returns-clause-class
returns-clause-class c =
    let name = number_name c.args.units.now c.args.places.now in
    class_differs name c.rare_class-2.new.self (name c.args.number) c.args.hash _ c.requires.hash (ap (λ m. get nat_cmp m c.args.hash) c.in_ok-class-2.ensures.firsts ∙ c.in_ok-part.ensures.parted) refl ∙ c.in_ok-class-2.ensures.class
