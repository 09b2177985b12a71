use Rattle.std.proofs.Common.{◌+◌, ◌*◌, ◌≤◌, length, drop, vec_len}
use Rattle.debug_units.specs.UnitEntries.{places}
use Rattle.debug_units.specs.Owners.{covering_from}
use Rattle.step_maps.specs.SpanStretches.{AreFit}
use Rattle.func_flatten.specs.internal.Standing.{IsCollected}
use Rattle.func_flatten.proofs.functions.collect_all.Given as goal

abbrev pub invariant-units : goal.invariant-units
invariant-units l = record {
  all : IsCollected l.units l.kept.places.items l.kept.stretches.items (l.unit * 4294967296) (covering_from l.unit (drop l.unit l.units));
  fit : AreFit l.kept.stretches.items;
  count : vec_len l.kept.places + length (places (drop l.unit l.units)) ≤ length (places l.units);
}
