use Rattle.std.proofs.Common.{sym, ap, ◌∙◌}
use Rattle.func_flatten.specs.internal.Classes.{place_name, number_name}
use Rattle.func_flatten.specs.internal.NameClasses.{rare_at}
use Rattle.func_flatten.proofs.NameLemmas.{rare_stays, rare_numbers, rare_has}
use Rattle.func_flatten.proofs.name_classes.NameClasses.rare_class.Goals as goal

pub returns-clause-stays : goal.returns-clause-stays
returns-clause-stays c = rare_stays c.args.self.now.rare c.insert.new.self c.in_ok-text.text c.args.number c.in_ok-insert.ensures.entries (c.in_default.ensures ∙ ap (rare_at c.args.self.now.rare) c.as_slice.ensures.value)

pub returns-clause-numbers : goal.returns-clause-numbers
returns-clause-numbers c =
    rare_numbers (number_name c.args.units.now c.args.places.now) c.args.self.now.rare c.insert.new.self c.in_ok-text.text c.args.number c.in_ok-insert.ensures.entries (c.in_ok-text.ensures ∙ ap (place_name c.args.units.now) c.place_at.ensures)

pub returns-clause-class : goal.returns-clause-class
returns-clause-class c =
    ap (rare_at c.insert.new.self) (sym (c.in_ok-text.ensures ∙ ap (place_name c.args.units.now) c.place_at.ensures)) ∙ rare_has c.args.self.now.rare c.insert.new.self c.in_ok-text.text c.args.number c.in_ok-insert.ensures.entries
