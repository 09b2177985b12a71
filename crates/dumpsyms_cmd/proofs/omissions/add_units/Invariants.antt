use Rattle.std.proofs.Common.{◌≡◌, take, ◌++◌}
use Rattle.std.specs.List.{flat_map}
use Rattle.dumpsyms_cmd.specs.Refusals.{skipped_of}
use Rattle.dumpsyms_cmd.proofs.omissions.add_units.Given as goal

abbrev pub invariant-lines : goal.invariant-lines
invariant-lines l = l.text.items ≡ l.fn.text.items ++ flat_map skipped_of (take l.unit-index l.units)
