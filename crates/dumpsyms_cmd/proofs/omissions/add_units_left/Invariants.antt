use Rattle.std.proofs.Common.{◌≡◌, take, ◌++◌}
use Rattle.std.specs.List.{flat_map}
use Rattle.dumpsyms_cmd.specs.Refusals.{unit_left}
use Rattle.dumpsyms_cmd.proofs.omissions.add_units_left.Given as goal

abbrev pub invariant-lines : goal.invariant-lines
invariant-lines l = record {
  kept : l.splits ≡ l.fn.splits;
  text : l.text.items ≡ l.fn.text.items ++ flat_map (unit_left l.fn.splits) (take l.unit-index l.units);
}
