use Rattle.std.proofs.Common.{◌≡◌, ◌≤◌, ◌+◌, length, drop}
use Rattle.abbrev_units.specs.UnitPlaces.{read_units}
use Rattle.dumpsyms_cmd.proofs.omissions.count_read.Given as goal

abbrev pub invariant-units : goal.invariant-units
invariant-units l = record {
  few : l.count ≤ l.unit-index;
  counted : l.count + length (read_units (drop l.unit-index l.units)) ≡ length (read_units l.units);
}
