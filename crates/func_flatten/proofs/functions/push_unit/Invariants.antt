use Rattle.std.proofs.Common.{◌+◌, ◌*◌, ◌≤◌, ◌++◌, List, drop, vec_len}
use Rattle.std.specs.List.{All}
use Rattle.debug_units.specs.Owners.{Covering, unit_covering}
use Rattle.step_maps.specs.SpanStretches.{AreFit}
use Rattle.func_flatten.specs.internal.Standing.{IsCollected, AreApart}
use Rattle.func_flatten.proofs.functions.push_unit.Given as goal

abbrev pub invariant-entries : goal.invariant-entries
invariant-entries l = record {
  all : (left : List Covering) → IsCollected l.units l.fn.kept.places.items l.fn.kept.stretches.items (l.unit * 4294967296) (unit_covering l.unit 0 l.part.die.dies l.part.spans ++ left) → IsCollected l.units l.kept.places.items l.kept.stretches.items (l.unit * 4294967296 + l.entry) (unit_covering l.unit l.entry (drop l.entry l.part.die.dies) (drop l.entry l.part.spans) ++ left);
  apart : All (AreApart l.units l.kept.places.items) l.kept.sets.items;
  fit : AreFit l.kept.stretches.items;
  count : vec_len l.kept.places ≤ vec_len l.fn.kept.places + l.entry;
}
