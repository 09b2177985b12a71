use Rattle.std.proofs.Common.{take}
use Rattle.step_maps.specs.SpanStretches.{AreFit}
use Rattle.func_flatten.specs.internal.Classes.{number_name}
use Rattle.func_flatten.specs.internal.Repeats.{AreOwn, Represents}
use Rattle.func_flatten.proofs.repeats.without_repeats.Given as goal

abbrev pub invariant-stretches : goal.invariant-stretches
invariant-stretches l = record {
  represents : Represents (number_name l.units l.places) (take l.at l.stretches) l.kept.items;
  fit : AreFit l.kept.items;
  own : AreOwn l.kept.items;
}
