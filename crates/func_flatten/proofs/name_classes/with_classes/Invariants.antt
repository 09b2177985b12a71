use Rattle.std.proofs.Common.{take}
use Rattle.func_flatten.specs.internal.Classes.{number_name}
use Rattle.func_flatten.specs.internal.NameKeys.{AreFronts}
use Rattle.func_flatten.specs.internal.NameClasses.{class_at, AreHeld, AreClassed}
use Rattle.func_flatten.proofs.name_classes.with_classes.Given as goal

abbrev pub invariant-stretches : goal.invariant-stretches
invariant-stretches l = record {
  fronts : AreFronts l.units l.scopes.known;
  held : AreHeld l.units (number_name l.units l.places) l.classes;
  named : AreClassed (class_at (number_name l.units l.places) l.classes) (number_name l.units l.places) (take l.at l.stretches) l.named.items;
}
